-- A rate goes to its bits and back, and bits to their rate and back, except not-a-number, which has no one pattern.
use mathlib.Core.Path.{◌≡◌}
use mathlib.Core.Bool.{not}
use Prim.Native.Nat.{ℕ, ◌<◌, ◌^◌}
use lib.Dec.{T}
use Rattle.std.proofs.Common.{Some}
use lib.Ieee.{Float, binary64, fits}
use lib.Ieee.Bits.{of_bits-to_bits, to_bits-of_bits, to_bits-lt, is_false}
use Rattle.byte_order.specs.Rate.{rate_of, bits_of_rate, not_aNumber}
use Rattle.byte_order.specs.RateAnswers.{rate_from, bits_from}

-- the code's `f64` always fits
pub rate-back : (x : Float) → T (fits binary64 x) → rate_of (bits_of_rate x) ≡ x
rate-back x h = of_bits-to_bits binary64 x h

pub bits_fit : (x : Float) → T (fits binary64 x) → bits_of_rate x < 2 ^ 64
bits_fit x h = to_bits-lt binary64 x h

pub bits_back : (n : ℕ) → n < 2 ^ 64 → T (not (not_aNumber (rate_of n))) → bits_of_rate (rate_of n) ≡ n
bits_back n h number = to_bits-of_bits binary64 n h number

-- the same of the answers: what one function gives, the other one takes back
pub rate-to-bits-and-back : (x : Float) → T (fits binary64 x) → T (not (not_aNumber x)) → (bits_from x ≡ Some (bits_of_rate x)) × (rate_from (bits_of_rate x) ≡ Some x)
rate-to-bits-and-back x h number = let no = is_false (not_aNumber x) number in (rw no, rw (rate-back x h, no))

pub bits-to-rate-and-back : (n : ℕ) → n < 2 ^ 64 → T (not (not_aNumber (rate_of n))) → (rate_from n ≡ Some (rate_of n)) × (bits_from (rate_of n) ≡ Some n)
bits-to-rate-and-back n h number = let no = is_false (not_aNumber (rate_of n)) number in (rw no, rw (no, bits_back n h number))
