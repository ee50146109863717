use Rattle.std.proofs.Common.{◌≡◌, ◌*◌, Bool, Option, Some, None, length, refl, sym}
use Rattle.std.proofs.lemmas.Result.{err_from_is_err_and}
use mathlib.Core.Bool.{true, false, not}
use Rattle.std.specs.Option.{is_some}
use Rattle.format.specs.declared.AudioFormat.{AudioFormat}
use Rattle.byte_order.specs.Splice.{store_count}
use Rattle.pcm.specs.Packing.{packed}
use Rattle.pcm.proofs.Packed.{length-packed}
use Rattle.refusals.specs.Numbers.{is_absent}
use Rattle.writer.specs.Record.{with_data}
use Rattle.writer.specs.Outcome.{stores}
use Rattle.writer.specs.Data.{samples_number, samples_call}
use Rattle.writer.proofs.Tests.{refusal-not_done}
use Rattle.writer.proofs.Counting.{counted-refused, counted-stored}
use Rattle.writer.proofs.Allowed.{samples-number, data-allowed}
use Rattle.writer.proofs.Packing.{samples-data}
use Rattle.writer.proofs.CAFWriter.write_pcm_24bit_as_packed_counted.Goals as goal

absent_is : (o : Option AudioFormat) (r : Bool) → is_some o ≡ not r → r ≡ is_absent o
absent_is None true e = refl
absent_is None false e = cc
absent_is (Some f) true e = cc
absent_is (Some f) false e = refl

pub returns-in_err-check_samples : goal.returns-in_err-check_samples
unfolding samples_call
returns-in_err-check_samples c =
    let a = c.args in
    let bytes = packed a.self.endianness a.samples.now in
    let many = length-packed a.self.endianness a.samples.now in
    let absent : c.is_none-absent.result ≡ is_absent a.self.format = absent_is a.self.format _ c.is_none-absent.ensures in
    let p = err_from_is_err_and c.from_residual.result c.from_residual.ensures.1 in
    let is = samples-number a.self (length a.buf.now) c.standing.result c.standing.ensures (3 * length a.samples.now) absent c.in_err-check_samples.ensures in
    let f = counted-refused a.n a.self a.buf.now _ (stores a.self.file_len bytes (with_data a.self (length bytes))) (refusal-not_done _) in
    rw (p.1, p.2, many, ← is) (rw (← many) f.0, rw (← many) f.1)

pub returns : goal.returns
unfolding samples_call
returns c =
    let a = c.args in
    let room = length a.buf.now in
    let bytes = packed a.self.endianness a.samples.now in
    let many = length-packed a.self.endianness a.samples.now in
    let absent : c.is_none-absent.result ≡ is_absent a.self.format = absent_is a.self.format _ c.is_none-absent.ensures in
    let is = samples-number a.self room c.standing.result c.standing.ensures (3 * length a.samples.now) absent c.in_ok-check_samples.ensures in
    let z : samples_number a.self room (length bytes) ≡ 0 = rw many (sym is) in
    let h = data-allowed a.self room (length bytes) (samples-data a.self room (length bytes) z).0 in
    let k : c.pack_first-stores.result ≡ store_count a.n (length bytes) a.self.file_len room = rw many c.pack_first-stores.ensures.0 in
    let d = counted-stored a.n a.self a.buf.now (samples_number a.self room (length bytes)) a.self.file_len bytes (with_data a.self (length bytes)) z h.in-room c.pack_first-stores.result _ k c.pack_first-stores.ensures.1 in
    (rw c.with_stores.ensures d.0, d.1)
