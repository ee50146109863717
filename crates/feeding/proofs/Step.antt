-- One byte: it is taken within the limit, it is too much at the limit, and after a refusal it changes nothing.
use mathlib.Core.Path.{◌≡◌, refl, ◌∙◌, ap}
use mathlib.Core.Bool.{true, false}
use mathlib.Core.List.{List, [], ◌∷◌}
use Prim.Native.Nat.{ℕ, ◌<◌}
use native.Mathlib.Omega.{arith}
use lib.Dec.{leb}
use borrow.Author.Tests.{le-leb, lt-leb}
use Rattle.answers.specs.Numbers.{file_max}
use Rattle.feeder.specs.declared.Feeder.{Feeder}
use Rattle.feeding.specs.Feed.{took, is_refused, step1, feed_bytes, overrun}

-- a byte within the limit is taken
pub step_is : (r : Feeder) (b : ℕ) → is_refused r.phase ≡ false → r.total < file_max → step1 r b ≡ took r (b ∷ [])
unfolding step1
step_is r b x l = let w : leb file_max r.total ≡ false = lt-leb file_max r.total l in rw (x, w)

pub refused-bytes : (bs : List ℕ) (r : Feeder) → is_refused r.phase ≡ true → feed_bytes r bs ≡ r
unfolding step1
refused-bytes [] r e = refl
refused-bytes (b ∷ bs) r e = let s : step1 r b ≡ r = rw e in ap (λ (x : Feeder). feed_bytes x bs) s ∙ refused-bytes bs r e

-- one byte at the limit, and whatever follows it
pub over : (r : Feeder) (b : ℕ) (rest : List ℕ) → is_refused r.phase ≡ false → r.total ≡ file_max → feed_bytes r (b ∷ rest) ≡ overrun r
unfolding step1
over r b rest x e =
    let w : leb file_max r.total ≡ true = le-leb file_max r.total (omega arith) in
    let s : step1 r b ≡ overrun r = rw (x, w) in
    ap (λ (y : Feeder). feed_bytes y rest) s ∙ refused-bytes rest (overrun r) refl
