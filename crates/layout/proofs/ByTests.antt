-- The labels by the tests of the code: the same as by the list of 47. Below 320 it is computed, number by number; from there on
-- stands one label, the first of the list.
use mathlib.Core.Path.{◌≡◌, refl, sym, ◌∙◌}
use mathlib.Core.Bool.{Bool, true, false, cond, not, ◌&&◌}
use mathlib.Core.List.{List, [], ◌∷◌}
use Prim.Native.Nat.{ℕ, zero, suc, ◌/◌, ◌%◌, ◌^◌, ◌<◌, ◌≤◌}
use native.Mathlib.Omega.{arith}
use lib.Dec.{eqb, leb, ltb}
use lib.ListN.{drop}
use borrow.Author.Tests.{ne_eqb, le-ltb, le-leb, lt-leb, ltb-true, ltb-false}
use Rattle.layout.specs.Labels as label
use Rattle.layout.specs.Known.{among, known_label}
use Rattle.layout.proofs.Every.{both}

-- the bit of n in a word for its 64 numbers
abbrev pub has_bit : ℕ → ℕ → Bool
has_bit word n = eqb (word / 2 ^ (n % 64) % 2) 1

abbrev pub apart : List ℕ
apart = label.UseCoordinates ∷ label.Unknown ∷ []

abbrev pub known_by_tests : ℕ → Bool
known_by_tests n =
    cond (ltb n 64) (has_bit 0xA_1FFE_0007_FFFF n)
    (cond (leb label.AmbisonicW n && leb n label.XYY) true (cond (eqb (n / 64) 4) (has_bit 0x3_6000_0000_0000 n) (among n apart)))

-- a test that is computed for every number below k
abbrev below : ℕ → (ℕ → Bool) → Bool
below zero p = true
below (suc k) p = p k && below k p

each_below : (p : ℕ → Bool) (k n : ℕ) → below k p ≡ true → n < k → p n ≡ true
each_below p zero n t h = absurd (let z : ⊥ = omega arith in z)
each_below p (suc k) n t h = go (ltb n k) refl (each_below p k n (both (p k) (below k p) t).1)
  where
    go : (b : Bool) → ltb n k ≡ b → (n < k → p n ≡ true) → p n ≡ true
    go true e before = before (ltb-true n k e)
    go false e before =
        let last : n ≡ k = omega (arith, ltb-false n k e) in rw last (both (p k) (below k p) t).0

abbrev same : Bool → Bool → Bool
same true b = b
same false b = not b

same-is : (a b : Bool) → same a b ≡ true → a ≡ b
same-is true true h = refl
same-is true false h = cc
same-is false true h = cc
same-is false false h = refl

abbrev least : ℕ
least = 320

computed : below least (λ n. same (known_by_tests n) (known_label n)) ≡ true
unfolding known_label
computed = refl

-- a number from there on is in no list of smaller ones
abbrev smaller : List ℕ → Bool
smaller [] = true
smaller (x ∷ xs) = ltb x least && smaller xs

in-none : (n : ℕ) (xs : List ℕ) → smaller xs ≡ true → least ≤ n → among n xs ≡ false
in-none n [] s h = refl
in-none n (x ∷ xs) s h =
    let b = both (ltb x least) (smaller xs) s in
    let other : eqb n x ≡ false = ne_eqb n x (λ e. let z : ⊥ = omega (arith, ltb-true x least b.0) in z) in
    rw (other, in-none n xs b.1 h)

above : (n : ℕ) → least ≤ n → known_by_tests n ≡ known_label n
unfolding known_label
above n h =
    rw (
      le-ltb n 64 (omega arith),
      le-leb label.AmbisonicW n (omega arith),
      lt-leb n label.XYY (omega arith),
      ne_eqb (n / 64) 4 (λ e. let z : ⊥ = omega arith in z),
      in-none n (drop 1 label.labels) refl h,
      ne_eqb n label.UseCoordinates (λ e. let z : ⊥ = omega arith in z),
    )

pub by_tests : (n : ℕ) → known_by_tests n ≡ known_label n
by_tests n = go (ltb n least) refl
  where
    go : (b : Bool) → ltb n least ≡ b → known_by_tests n ≡ known_label n
    go true e = same-is (known_by_tests n) (known_label n) (each_below (λ m. same (known_by_tests m) (known_label m)) least n computed (ltb-true n least e))
    go false e = above n (ltb-false n least e)

-- past the words and the run
pub only-apart : (n : ℕ) → 64 ≤ n → (leb label.AmbisonicW n && leb n label.XYY) ≡ false → (n / 64 ≡ 4 → ⊥) → among n apart ≡ known_label n
only-apart n from out other =
    let is : known_by_tests n ≡ among n apart = rw (le-ltb n 64 from, out, ne_eqb (n / 64) 4 other) in sym is ∙ by_tests n
