use Rattle.writer.specs.declared.CAFWriter.{CAFWriter}
use Rattle.writer.specs.Overview.{overview_call}
use Rattle.record_calls.proofs.Calls.{none-held, some-held, none-called, record-called}
use Rattle.std.proofs.Common.{sym, ◌∙◌}
use Rattle.record_calls.proofs.writing.append_overview.Goals as goal

pub returns-in_default : goal.returns-in_default
returns-in_default c =
    let a = c.args in
    rw c.number.ensures (none-called a.held.now _ a.buf.now (none-held a.held.now (sym c.record_in.ensures ∙ c.in_default.is)))

pub returns : goal.returns
returns c =
    let a = c.args in
    let k = some-held a.held.now (sym c.record_in.ensures ∙ c.in-Some.is) in
    let p = rw k.1 at c.append_overview.ensures in
    record-called a.held.now (λ (w : CAFWriter). overview_call w a.buf.now) k.0 p.0 c.keep.ensures.0 c.keep.ensures.1 a.buf.now p.1
