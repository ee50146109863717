use Rattle.record_calls.proofs.Calls.{none-held, some-held, none-counted, record-counted}
use Rattle.writer.specs.Data.{data_call}
use Rattle.writer.specs.declared.CAFWriter.{CAFWriter}
use lib.ListN.{length}
use Rattle.std.proofs.Common.{refl, sym, ◌∙◌}
use Rattle.record_made.proofs.counted.write_data_counted.Goals as goal

pub returns-in_default : goal.returns-in_default
returns-in_default c =
    let a = c.args in
    none-counted a.n a.held.now a.buf.now a.out.now _ c.if-out-lt-COUNTED_PLACES.false c.tell.ensures.0 c.tell.ensures.1 (none-held a.held.now (sym c.record_in.ensures ∙ c.in_default.is)) refl

pub returns : goal.returns
returns c =
    let a = c.args in
    let k = some-held a.held.now (sym c.record_in.ensures ∙ c.in-Some.is) in
    let p = rw k.1 at c.write_data_counted.ensures in
    let t = rw k.1 at c.tell-2.ensures in
    record-counted a.n a.held.now a.buf.now a.out.now (λ (w : CAFWriter). data_call w (length a.buf.now) a.bytes.now) c.if-out-lt-COUNTED_PLACES.false t.0 t.1 k.0 p.0 p.1
