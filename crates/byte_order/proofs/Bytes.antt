-- The bytes that the library makes of a number are those of `big_bytes`.
use mathlib.Core.Path.{◌≡◌, refl, ap, ◌∙◌}
use mathlib.Core.List.{List, ◌∷◌, ◌++◌}
use Prim.Native.Nat.{ℕ, zero, suc, ◌/◌, ◌%◌, ◌^◌}
use native.Mathlib.Nat.{pow-zero, div-one}
use lib.ListN.{length}
use Rattle.std.specs.Int.{bytes_high_first}
use Rattle.byte_order.specs.Big.{big_bytes}
use Rattle.byte_order.specs.Splice.{store_first}
use Rattle.byte_order.proofs.Budget.{put-after}

pub be-bytes : (w n : ℕ) → bytes_high_first w n ≡ big_bytes w n
be-bytes zero n = refl
be-bytes (suc zero) n = rw (pow-zero, div-one)
be-bytes (suc (suc w)) n = ap (λ (bs : List ℕ). n / 256 ^ suc w % 256 ∷ bs) (be-bytes (suc w) n)

-- a number put right after a front part takes the place of what stood there
pub put-next : (w n k : ℕ) (front old rest : List ℕ) {before after bytes : List ℕ} → length front ≡ k → length old ≡ w → before ≡ front ++ old ++ rest
    → bytes ≡ bytes_high_first w n → after ≡ store_first w bytes k before → after ≡ front ++ big_bytes w n ++ rest
put-next w n k front old rest {before} lf lo is bytes put =
    put-after w n k front old rest lf lo is (put ∙ ap (λ (bs : List ℕ). store_first w bs k before) (bytes ∙ be-bytes w n))
