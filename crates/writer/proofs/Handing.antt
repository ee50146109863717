-- What a call answers: beside a refusal the record that it got, and else what it came to.
use Rattle.std.proofs.Common.{◌≡◌, ℕ, refl, sym, ◌∙◌, ap, Result, Ok, Err}
use Rattle.answers.specs.Numbers.{done}
use Rattle.answers.specs.Refused.{refusal_number, outcome_number}
use Rattle.answers.specs.declared.refusal.Refusal.{Refusal}
use Rattle.writer.specs.Outcome.{Outcome, answer, unless_refused}
use Rattle.writer.specs.Shapes.{Wrote, counted_of}
use Rattle.writer.specs.declared.Counted as in-code
use Rattle.writer.specs.declared.CAFWriter.{CAFWriter}
use Rattle.writer.proofs.Tests.{accepted, refused, refusal-not_done}

-- a call whose number is known: its answer where it is refused, and where it is not
module _ {A : Type 0} (w : CAFWriter) (number : ℕ) (o : Outcome) (r : Result A Refusal) (is : outcome_number r ≡ number) where
  pub refused-answer : (e : Refusal) → r ≡ Err e → ◌≡◌ {A = Wrote} (record { number = refusal_number e; writer = w }) (answer (unless_refused number w o))
  refused-answer e h =
      let n : number ≡ refusal_number e = sym is ∙ ap (λ (x : Result A Refusal). outcome_number x) h in
      rw (refused number w o (λ z. refusal-not_done e (sym n ∙ z)), n) refl

  pub done-answer : (x : A) → r ≡ Ok x → {v : CAFWriter} → v ≡ o.after → o.number ≡ done → ◌≡◌ {A = Wrote} (record { number = done; writer = v }) (answer (unless_refused number w o))
  done-answer x h e k =
      let n : number ≡ done = sym is ∙ ap (λ (y : Result A Refusal). outcome_number y) h in
      rw (accepted number w o n, e, k) refl

-- the same from a counted call, with what it did
module _ (w : CAFWriter) (r : Result in-code.Counted Refusal) where
  pub refused-number : (e : Refusal) → r ≡ Err e
      → ((counted_of w.file_len r).number ≡ done → ⊥) × (◌≡◌ {A = Wrote} (record { number = refusal_number e; writer = w }) (record { number = (counted_of w.file_len r).number; writer = w }))
  refused-number e h = rw h (refusal-not_done e, refl)

  pub done-number : (x : in-code.Counted) → r ≡ Ok x → ((counted_of w.file_len r).number ≡ done) × ((counted_of w.file_len r).stores ≡ x.stores)
  done-number x h = rw h (refl, refl)
