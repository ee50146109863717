-- The tags and labels of the tables fit four bytes.
use mathlib.Core.Path.{◌≡◌, refl, sym}
use mathlib.Core.Bool.{Bool, true, false, ◌&&◌, ◌||◌, true≢false}
use mathlib.Core.List.{List, [], ◌∷◌}
use Prim.Native.Nat.{ℕ, ◌^◌, ◌<◌}
use lib.Dec.{ltb, eqb}
use borrow.Author.Tests.{eqb-true, ltb-true}
use Rattle.layout.specs.Labels.{labels}
use Rattle.layout.specs.Tags.{tags}
use Rattle.layout.specs.Known.{among, known_label, known_tag}
use Rattle.reading.proofs.Choice.{both}

abbrev small : List ℕ → Bool
small [] = true
small (x ∷ xs) = ltb x (2 ^ 32) && small xs

is-small : (n : ℕ) (xs : List ℕ) → small xs ≡ true → among n xs ≡ true → n < 2 ^ 32
is-small n [] s a = absurd (true≢false (sym a))
is-small n (x ∷ xs) s a =
    let d = both (ltb x (2 ^ 32)) (small xs) s in
    by (eqb n x) refl a (ltb-true x (2 ^ 32) d.0) (is-small n xs d.1)
  where
    by : (b : Bool) → eqb n x ≡ b → b || among n xs ≡ true → x < 2 ^ 32 → (among n xs ≡ true → n < 2 ^ 32) → n < 2 ^ 32
    by true e a l i = rw (eqb-true n x e) l
    by false e a l i = i a

pub tag_small : (t : ℕ) → known_tag t ≡ true → t < 2 ^ 32
unfolding known_tag
tag_small t e = is-small t tags refl e

pub label_small : (l : ℕ) → known_label l ≡ true → l < 2 ^ 32
unfolding known_label
label_small l e = is-small l labels refl e
