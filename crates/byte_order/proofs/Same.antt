-- `exactly` is the test of equality of two lists of numbers.
use mathlib.Core.Path.{◌≡◌, refl}
use mathlib.Core.Bool.{Bool, true, false, ◌&&◌}
use mathlib.Core.List.{List, [], ◌∷◌}
use Prim.Native.Nat.{ℕ}
use lib.Dec.{eqb, eqb_refl, eqb→eq}
use lib.Ieee.Bits.{is_true}
use Rattle.byte_order.specs.Same.{exactly}

pub exactly-refl : (xs : List ℕ) → exactly xs xs ≡ true
exactly-refl [] = refl
exactly-refl (x ∷ xs) = rw (is_true (eqb x x) (eqb_refl x)) (exactly-refl xs)

both : (p q : Bool) → p && q ≡ true → (p ≡ true) × (q ≡ true)
both true q h = (refl, h)
both false q h = (h, cc)

eq_of : (x y : ℕ) → eqb x y ≡ true → x ≡ y
eq_of x y h = eqb→eq x y (rw h tt)

pub exactly-eq : (xs ys : List ℕ) → exactly xs ys ≡ true → xs ≡ ys
exactly-eq [] [] h = refl
exactly-eq [] (y ∷ ys) h = cc
exactly-eq (x ∷ xs) [] h = cc
exactly-eq (x ∷ xs) (y ∷ ys) h =
    let e : x ≡ y = eq_of x y (both (eqb x y) (exactly xs ys) h).0 in
    let es : xs ≡ ys = exactly-eq xs ys (both (eqb x y) (exactly xs ys) h).1 in
    cc

flip : (b : Bool) → (b ≡ true → ⊥) → b ≡ false
flip true h = absurd (h refl)
flip false h = refl

pub exactly-no : (xs ys : List ℕ) → (xs ≡ ys → ⊥) → exactly xs ys ≡ false
exactly-no xs ys h = flip (exactly xs ys) (λ e. h (exactly-eq xs ys e))
