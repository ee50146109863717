-- A sample's 24 bits.
use mathlib.Core.List.{List}
use Prim.Native.Nat.{ℕ, ◌+◌, ◌*◌, ◌^◌, ◌<◌}
use native.Mathlib.Omega.{arith}
use lib.ListN.{get_or}
use Rattle.format.specs.declared.Endianness.{Endianness}
use Rattle.format.specs.declared.Endianness.TheVariants.{BigEndian, LittleEndian}
use Rattle.pcm.specs.Packing.{sample_size}
use Rattle.pcm.specs.Sample.{number24}
use Rattle.difference.specs.Sides.{sample_in}

-- three bytes make 24 bits
number_lt : (o : Endianness) (a b c : ℕ) → a < 256 → b < 256 → c < 256 → number24 o a b c < 2 ^ 24
number_lt BigEndian a b c x y z = omega arith
number_lt LittleEndian a b c x y z = omega arith

pub sample-lt : (o : Endianness) (s : List ℕ) (k : ℕ) → ((i : ℕ) → get_or s i 0 < 256) → sample_in o s k < 2 ^ 24
sample-lt o s k h =
    number_lt o (get_or s (sample_size * k) 0) (get_or s (sample_size * k + 1) 0) (get_or s (sample_size * k + 2) 0) (h (sample_size * k)) (h (sample_size * k + 1)) (h (sample_size * k + 2))
