-- An answer that is a refusal or a value, by one test: which of the two it is tells the test, and its value is the one that was meant.
use mathlib.Core.Path.{◌≡◌, refl, sym}
use mathlib.Core.Bool.{Bool, true, false, cond, true≢false}

module _ {A B : Type 0} (no : A) (yes : B → A) (apart : (v : B) → no ≡ yes v → true ≡ false) where
  pub refused : (b : Bool) (v : B) → cond b no (yes v) ≡ no → b ≡ true
  refused true v e = refl
  refused false v e = sym (apart v (sym e))

  pub given : ((v w : B) → yes v ≡ yes w → v ≡ w) → (b : Bool) (v w : B) → cond b no (yes v) ≡ yes w → (b ≡ false) × (v ≡ w)
  given same true v w e = absurd (true≢false (apart w e))
  given same false v w e = (refl, same v w e)
