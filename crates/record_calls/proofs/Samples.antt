-- The samples call on an array: the data call of the packed bytes, three for each sample.
use mathlib.Core.Path.{◌≡◌, refl, ◌∙◌}
use mathlib.Core.Bool.{true}
use mathlib.Core.List.{List}
use Prim.Native.Nat.{ℕ, ◌*◌}
use lib.IntN.{ℤ}
use lib.ListN.{length}
use Rattle.answers.specs.Numbers.{done}
use Rattle.byte_order.specs.Splice.{store_first}
use Rattle.byte_order.proofs.Budget.{whole-done}
use Rattle.pcm.specs.Packing.{packed}
use Rattle.pcm.proofs.Packed.{length-packed}
use Rattle.writer.specs.Data.{samples_number, samples_call}
use Rattle.writer.specs.Outcome.{Outcome, stores}
use Rattle.writer.specs.Record.{with_data}
use Rattle.writer.specs.declared.CAFWriter.{CAFWriter}
use Rattle.writer.proofs.Allowed.{data-allowed}
use Rattle.writer.proofs.Packing.{samples-data}
use Rattle.numbers.specs.Words.{at}
use Rattle.record_numbers.specs.RecordNumbers.{order_of, is_record, record_of, record_numbers}
use Rattle.record_calls.specs.RecordCalls.{number_on, call_on, Called}
use Rattle.record_calls.proofs.Changed.{refused-called, changed-called}

module _ (held buf : List ℕ) (samples : List ℤ) where
  abbrev many : ℕ
  many = 3 * length samples

  abbrev numbered : CAFWriter → ℕ
  numbered w = samples_number w (length buf) (length (packed w.endianness samples))

  abbrev adding : CAFWriter → Outcome
  adding w = stores w.file_len (packed w.endianness samples) (with_data w (length (packed w.endianness samples)))

  -- the number is by the count of the packed bytes, whatever their order
  same_number : number_on held (λ w. samples_number w (length buf) many) ≡ number_on held numbered
  same_number = rw (length-packed (record_of held).endianness samples)

  pub samples-refused : {r : ℕ} → r ≡ number_on held (λ w. samples_number w (length buf) many) → (r ≡ done → ⊥)
      → Called held buf (call_on held (λ w. samples_call w (length buf) samples)) r held buf
  unfolding samples_call
  samples-refused e h = refused-called held buf numbered adding (e ∙ same_number) h

  pub samples-changed : {after last : List ℕ} → is_record held ≡ true → samples_number (record_of held) (length buf) many ≡ done
      → after ≡ record_numbers (with_data (record_of held) many) → last ≡ store_first many (packed (order_of (at held 8)) samples) (at held 79) buf
      → Called held buf (call_on held (λ w. samples_call w (length buf) samples)) done after last
  unfolding samples_call record_of
  samples-changed is e k b =
      let w = record_of held in
      let bytes = packed w.endianness samples in
      let long = length-packed w.endianness samples in
      let h = data-allowed w (length buf) many (samples-data w (length buf) many e).0 in
      changed-called held buf numbered adding is (rw long e) refl (rw long k) (b ∙ whole-done many w.file_len bytes buf long h.in-room)
