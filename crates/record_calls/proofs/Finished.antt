-- The finish call on an array.
use mathlib.Core.Path.{◌≡◌, refl, sym, ◌∙◌, ap}
use mathlib.Core.Bool.{Bool, true, false, cond}
use mathlib.Core.List.{List}
use Prim.Native.Nat.{ℕ, ◌+◌, ◌≤◌}
use native.Mathlib.Omega.{arith}
use lib.ListN.{length}
use Rattle.answers.specs.Numbers.{done, file_max}
use Rattle.byte_order.proofs.Laws.{splice-nil}
use Rattle.writer.specs.Record.{as_finished}
use Rattle.writer.specs.Outcome.{stores, buffer_after}
use Rattle.writer.specs.Finish.{finish_number, final_size, finish_call}
use Rattle.writer.specs.declared.CAFWriter.{CAFWriter}
use Rattle.writer.proofs.Allowed.{finish-sound, finish-header}
use Rattle.writer.proofs.Facts.{sound-alone, in-room, headed}
use Rattle.writer.proofs.Closing.{closing, closing-number, closing_after}
use Rattle.record_numbers.specs.RecordNumbers.{is_record, record_of, record_numbers}
use Rattle.record_calls.specs.RecordCalls.{number_on, call_on, Called, size_stored}
use Rattle.record_calls.proofs.Changed.{refused-called, changed-called}

-- the size is stored where it does not stand yet
closing-stored : (b : Bool) (w : CAFWriter) (buf : List ℕ) → cond b buf (buffer_after (stores w.size_position (final_size w) (as_finished w)) buf) ≡ buffer_after (closing b w) buf
closing-stored true w buf = sym (splice-nil buf 0)
closing-stored false w buf = refl

-- where the size goes
pub record Fits (w : CAFWriter) (room : ℕ) : Type 0 where
  pub to : w.data_start ≤ w.file_len
  pub in-file : w.file_len ≤ file_max
  pub in_buffer : w.size_position + 8 ≤ room

pub size_fits : (w : CAFWriter) (room : ℕ) → finish_number w room ≡ done → w.finished ≡ false → Fits w room
size_fits w room e g =
    let s = finish-sound w room e in
    let a = sound-alone w room s in
    let p = headed w (finish-header w room e g) a.places in
    record { to = p.to; in-file = a.in-file; in_buffer = omega (arith, p.apart, p.to, in-room w room s) }

module _ (held buf : List ℕ) where
  pub finish-refused : {r : ℕ} → r ≡ number_on held (λ w. finish_number w (length buf)) → (r ≡ done → ⊥) → Called held buf (call_on held (λ w. finish_call w (length buf))) r held buf
  unfolding finish_call
  finish-refused e h = refused-called held buf (λ (w : CAFWriter). finish_number w (length buf)) (λ (w : CAFWriter). closing w.finished w) e h

  pub finish-changed : {after last : List ℕ} → is_record held ≡ true → finish_number (record_of held) (length buf) ≡ done
      → after ≡ record_numbers (as_finished (record_of held)) → last ≡ size_stored (record_of held) buf → Called held buf (call_on held (λ w. finish_call w (length buf))) done after last
  unfolding finish_call
  finish-changed is e k b =
      let w = record_of held in
      changed-called held buf (λ (w : CAFWriter). finish_number w (length buf)) (λ (w : CAFWriter). closing w.finished w) is e (closing-number w.finished w)
      (k ∙ ap record_numbers (closing_after w.finished w refl)) (b ∙ closing-stored w.finished w buf)
