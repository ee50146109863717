-- An `f64` and its 64 bits, by IEEE 754.
use Rattle.std.specs.Prelude.{ℕ, Bool, Float}
use Rattle.std.specs.Float.{binary64}
use Rattle.std.specs.Float.Ieee.{of_bits, to_bits, is_nan}

-- the rate that 64 bits stand for; every not-a-number pattern stands for the one `nan`
abbrev pub rate_of : ℕ → Float
rate_of bits = of_bits binary64 bits

-- the 64 bits of a rate
abbrev pub bits_of_rate : Float → ℕ
bits_of_rate x = to_bits binary64 x

-- 01, Numbers given back: what BadRate tests
abbrev pub not_aNumber : Float → Bool
not_aNumber x = is_nan x
