-- A rate and its 64 bits where one of them is a not-a-number.
use Rattle.std.proofs.Common.{◌≡◌, cond, Some, None, refl}
use Rattle.std.specs.Option.{unwrap_or}
use lib.Ieee.{Float, nan, inf, fin, is_nan, to_bits, of_bits, of_fields, odd, binary64}
use Rattle.byte_order.specs.Rate.{not_aNumber, bits_of_rate}
use Rattle.byte_order.specs.RateAnswers.{bits_from}

-- the constant `f64::NAN` in the place of every not-a-number
pub rate-or-nan : (x : Float) → unwrap_or (cond (not_aNumber x) None (Some x)) (of_bits binary64 0x7FF8_0000_0000_0000) ≡ x
unfolding is_nan of_bits of_fields odd
rate-or-nan nan = refl
rate-or-nan (inf s) = refl
rate-or-nan (fin s m x) = refl

-- and the one pattern that `bits_of_rate` has for them
pub bits-or-nan : (x : Float) → unwrap_or (bits_from x) 0x7FF8_0000_0000_0000 ≡ bits_of_rate x
unfolding is_nan to_bits
bits-or-nan nan = refl
bits-or-nan (inf s) = refl
bits-or-nan (fin s m x) = refl
