-- The bytes that the library makes of a number, the lowest first, are those of `little_bytes`.
use Rattle.std.proofs.Common.{◌≡◌, ℕ, zero, suc, ◌/◌, ◌%◌, ◌^◌, List, ◌∷◌, refl, ap, ◌∙◌}
use Rattle.std.proofs.Math.Nat.{pow-zero, pow-suc, div-one, div-div-eq-div-mul}
use Rattle.std.specs.Int.{byte_at, bytes_low_first}
use Rattle.wave.specs.Little.{little_bytes}

at-place : (i n : ℕ) → byte_at i n ≡ n / 256 ^ i % 256
at-place zero n = rw (pow-zero, div-one)
at-place (suc i) n = refl

from : (i w n : ℕ) → bytes_low_first i w n ≡ little_bytes w (n / 256 ^ i)
from i zero n = refl
from i (suc w) n =
    let up : n / 256 ^ suc i ≡ n / 256 ^ i / 256 = rw (pow-suc, div-div-eq-div-mul) in
    rw (at-place i n) (ap (λ (bs : List ℕ). n / 256 ^ i % 256 ∷ bs) (from (suc i) w n ∙ ap (little_bytes w) up))

pub le-bytes : (w n : ℕ) → bytes_low_first 0 w n ≡ little_bytes w n
le-bytes w n = from 0 w n ∙ ap (little_bytes w) (rw (pow-zero, div-one))
