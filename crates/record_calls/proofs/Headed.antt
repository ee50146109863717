-- The header call on an array.
use mathlib.Core.Path.{◌≡◌, refl, sym, ◌∙◌, ap}
use mathlib.Core.Bool.{true}
use mathlib.Core.List.{List}
use Prim.Native.Nat.{ℕ, ◌≤◌}
use lib.ListN.{length}
use borrow.Author.Tests.{ne_eqb}
use Rattle.answers.specs.Numbers.{done}
use Rattle.refusals.specs.Sound.{rate_sound}
use Rattle.writer.specs.Record.{with_header}
use Rattle.writer.specs.Outcome.{Outcome, buffer_cut, counted}
use Rattle.writer.specs.Header.{header_call}
use Rattle.writer.specs.declared.CAFWriter.{CAFWriter}
use Rattle.writer.specs.Shapes.{Counted}
use Rattle.writer.specs.Shapes.{Wrote}
use Rattle.writer.proofs.Allowed.{header-allowed}
use Rattle.writer.proofs.Facts.{sound-alone}
use Rattle.writer.proofs.Whole.{all, header-buffer, header-least, header-answer, header-number}
use Rattle.record_numbers.specs.RecordNumbers.{maybe_of, is_record, record_of, record_numbers}
use Rattle.record_calls.specs.RecordCalls.{call_on, record_after, Called}
use Rattle.record_calls.proofs.Calls.{on-record}
use Rattle.record_calls.proofs.Changed.{rate-seen}

-- from the counted form with a budget for all
module _ (held buf : List ℕ) (is : is_record held ≡ true) (r : Counted) (given : r ≡ counted all (header_call (record_of held) (length buf)) (record_of held)) where
  abbrev o : Outcome
  o = header_call (record_of held) (length buf)

  numbered : r.number ≡ o.number
  numbered = ap (λ (x : Counted). x.number) given

  pub header-not-done : {last : List ℕ} → (r.number ≡ done → ⊥) → last ≡ buffer_cut all o buf → Called held buf (call_on held (λ w. header_call w (length buf))) r.number held last
  unfolding record_after
  header-not-done h b =
      rw (on-record held (λ (w : CAFWriter). header_call w (length buf)) is)
      (record { number = numbered; kept = rw (ne_eqb o.number done (λ e. h (numbered ∙ e))); stored = header-buffer (record_of held) (length buf) buf _ b })

  module _ (e : r.number ≡ done) where
    pub head-allowed : (is_record held ≡ true) × (rate_sound (maybe_of held) ≡ true) × (12 ≤ r.stores)
    head-allowed =
        let w = record_of held in
        let h = header-allowed w (length buf) (header-number w (length buf) (sym numbered ∙ e)) in
        (is, rate-seen held (sound-alone w (length buf) h.is-sound).format, header-least w (length buf) r given e)

    pub header-done-called : {after last : List ℕ} → after ≡ record_numbers (with_header (record_of held) r.stores) → last ≡ buffer_cut all o buf
        → Called held buf (call_on held (λ w. header_call w (length buf))) done after last
    unfolding record_after
    header-done-called k b =
        let w = record_of held in
        let wrote = header-answer w (length buf) r given e (with_header w r.stores) refl in
        rw (on-record held (λ (w : CAFWriter). header_call w (length buf)) is)
        (record {
          number = sym (sym numbered ∙ e);
          kept = rw (sym numbered ∙ e) (k ∙ ap (λ (x : Wrote). record_numbers x.writer) wrote);
          stored = header-buffer w (length buf) buf _ b;
        })
