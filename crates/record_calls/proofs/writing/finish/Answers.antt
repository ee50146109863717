use Rattle.std.proofs.Common.{ap}
use Rattle.answers.specs.Refused.{outcome_number}
use Rattle.numbers.proofs.Refused.{refused-some}
use Rattle.record_calls.proofs.Changed.{number-done, rate-seen}
use Rattle.record_calls.proofs.Finished.{finish-refused, finish-changed}
use Rattle.record_numbers.specs.RecordNumbers.{record_of}
use Rattle.writer.specs.Finish.{finish_number}
use Rattle.writer.specs.declared.CAFWriter.{CAFWriter}
use Rattle.writer.proofs.Allowed.{finish-sound}
use Rattle.writer.proofs.Facts.{sound-alone}
use Prim.Native.Nat.{ℕ}
use lib.ListN.{length}
use mathlib.Core.Path.{sym, ◌∙◌}
use Rattle.record_calls.proofs.writing.finish.Goals as goal

pub returns-in-Err : goal.returns-in-Err
returns-in-Err c =
    let a = c.args in
    rw c.number.ensures (finish-refused a.held.now a.buf.now c.in-Err.ensures (refused-some c.in-Err.refusal))

pub close-requires : goal.close-requires
close-requires c =
    let a = c.args in
    let number : CAFWriter → ℕ = λ w. finish_number w (length a.buf.now) in
    let d = number-done a.held.now number (sym c.check_finish_on.ensures ∙ ap outcome_number c.in_default.is) in
    let w = record_of a.held.now in
    (d.0, rate-seen a.held.now (sound-alone w (length a.buf.now) (finish-sound w (length a.buf.now) d.1)).format)

pub returns : goal.returns
returns c =
    let a = c.args in
    let number : CAFWriter → ℕ = λ w. finish_number w (length a.buf.now) in
    let d = number-done a.held.now number (sym c.check_finish_on.ensures ∙ ap outcome_number c.in_default.is) in
    (finish-changed a.held.now a.buf.now d.0 d.1 c.close.ensures c.store_size.ensures)
