use Rattle.std.proofs.Common.{ap}
use Rattle.answers.specs.Refused.{outcome_number}
use Rattle.numbers.proofs.Refused.{refused-some}
use Rattle.record_calls.proofs.Changed.{refused-called, changed-called, number-done, grow-allowed}
use Rattle.record_numbers.specs.RecordNumbers.{record_of}
use Rattle.writer.specs.Data.{data_number, data_call}
use Rattle.writer.specs.Outcome.{Outcome, stores}
use Rattle.writer.specs.Record.{with_data}
use Rattle.writer.specs.declared.CAFWriter.{CAFWriter}
use Rattle.writer.proofs.Allowed.{data-allowed}
use Rattle.byte_order.proofs.Budget.{whole-done}
use lib.ListN.{length}
use Prim.Native.Nat.{ℕ}
use mathlib.Core.Path.{refl, sym, ◌∙◌}
use Rattle.record_calls.proofs.writing.write_data.Goals as goal

pub returns-in-Err : goal.returns-in-Err
unfolding data_call
returns-in-Err c =
    let a = c.args in
    rw c.number.ensures (refused-called a.held.now a.buf.now (λ (w : CAFWriter). data_number w (length a.buf.now) (length a.bytes.now)) (λ (w : CAFWriter). stores w.file_len a.bytes.now (with_data w (length a.bytes.now)))
    c.in-Err.ensures (refused-some c.in-Err.refusal))

pub grow-requires : goal.grow-requires
grow-requires c =
    let a = c.args in
    let number : CAFWriter → ℕ = λ w. data_number w (length a.buf.now) (length a.bytes.now) in
    let d = number-done a.held.now number (sym c.check_data_on.ensures ∙ ap outcome_number c.in_default.is) in
    grow-allowed a.held.now (length a.buf.now) (length a.bytes.now) d.0 d.1

pub returns : goal.returns
unfolding data_call record_of
returns c =
    let a = c.args in
    let number : CAFWriter → ℕ = λ w. data_number w (length a.buf.now) (length a.bytes.now) in
    let d = number-done a.held.now number (sym c.check_data_on.ensures ∙ ap outcome_number c.in_default.is) in
    let h = data-allowed (record_of a.held.now) (length a.buf.now) (length a.bytes.now) d.1 in
    let adding : CAFWriter → Outcome = λ w. stores w.file_len a.bytes.now (with_data w (length a.bytes.now)) in
    let put = whole-done (length a.bytes.now) (record_of a.held.now).file_len a.bytes.now a.buf.now refl h.in-room in
    (changed-called a.held.now a.buf.now number adding d.0 d.1 refl c.grow.ensures (c.store.ensures.1 ∙ rw c.number_at-len.ensures put))
