use Rattle.std.proofs.Common.{ap}
use Rattle.answers.specs.Refused.{outcome_number}
use Rattle.numbers.proofs.Refused.{refused-some}
use Rattle.record_calls.proofs.Changed.{number-done, grow-allowed}
use Rattle.record_calls.proofs.Samples.{samples-refused, samples-changed}
use Rattle.record_numbers.specs.RecordNumbers.{record_of}
use Rattle.writer.specs.Data.{samples_number}
use Rattle.writer.specs.declared.CAFWriter.{CAFWriter}
use Rattle.writer.proofs.Packing.{samples-data}
use lib.ListN.{length}
use Prim.Native.Nat.{ℕ, ◌*◌}
use mathlib.Core.Path.{sym, ◌∙◌}
use Rattle.record_calls.proofs.writing.write_samples.Goals as goal

pub returns-in-Err : goal.returns-in-Err
returns-in-Err c =
    let a = c.args in
    rw c.number.ensures (samples-refused a.held.now a.buf.now a.samples.now c.in-Err.ensures (refused-some c.in-Err.refusal))

pub grow-requires : goal.grow-requires
grow-requires c =
    let a = c.args in
    let n = 3 * length a.samples.now in
    let number : CAFWriter → ℕ = λ w. samples_number w (length a.buf.now) n in
    let d = number-done a.held.now number (sym c.check_samples_on.ensures ∙ ap outcome_number c.in_default.is) in
    let e = (samples-data (record_of a.held.now) (length a.buf.now) n d.1).0 in
    grow-allowed a.held.now (length a.buf.now) n d.0 e

pub returns : goal.returns
returns c =
    let a = c.args in
    let n = 3 * length a.samples.now in
    let number : CAFWriter → ℕ = λ w. samples_number w (length a.buf.now) n in
    let d = number-done a.held.now number (sym c.check_samples_on.ensures ∙ ap outcome_number c.in_default.is) in
    let e = (samples-data (record_of a.held.now) (length a.buf.now) n d.1).0 in
    (samples-changed a.held.now a.buf.now a.samples.now d.0 d.1 c.grow.ensures
    (rw (c.number_at-len.ensures, c.order_of-endianness.ensures, c.number_at.ensures) at c.pack_first.ensures.1))
