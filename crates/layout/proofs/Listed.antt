-- Numbers that a `match` names: what is known in its arm and after it, as a list says it.
use mathlib.Core.Path.{◌≡◌, refl}
use mathlib.Core.Bool.{true, false, or-true}
use mathlib.Core.List.{List, [], ◌∷◌}
use mathlib.Core.Logic.{inl, inr}
use Prim.Native.Nat.{ℕ}
use lib.Dec.{eqb}
use types.Run.{OneOf}
use borrow.Author.Tests.{eq-eqb, ne_eqb}
use Rattle.layout.specs.Known.{among}

pub one_of : (n : ℕ) (xs : List ℕ) → OneOf xs n → among n xs ≡ true
one_of n [] h = absurd h
one_of n (x ∷ []) h = rw (eq-eqb n x h)
one_of n (x ∷ y ∷ xs) (inl h) = rw (eq-eqb n x h)
one_of n (x ∷ y ∷ xs) (inr h) = rw (one_of n (y ∷ xs) h) (or-true (eqb n x))

pub none_of : (n : ℕ) (xs : List ℕ) → (OneOf xs n → ⊥) → among n xs ≡ false
none_of n [] h = refl
none_of n (x ∷ []) h = rw (ne_eqb n x h)
none_of n (x ∷ y ∷ xs) h = rw (ne_eqb n x (λ e. h (inl e)), none_of n (y ∷ xs) (λ o. h (inr o)))
