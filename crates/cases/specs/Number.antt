-- Numbers of a case, and positions in it (compare/README.md, The fixed sample).
use Rattle.std.specs.Prelude.{ℕ, ◌+◌, ◌-◌, ◌^◌, min, cond, eqb}
use Rattle.format.specs.declared.Endianness.{Endianness}
use Rattle.format.specs.declared.Endianness.TheVariants.{BigEndian, LittleEndian}
use Rattle.format.specs.declared.PCMDataType.{PCMDataType}
use Rattle.format.specs.declared.PCMDataType.TheVariants.{SignedInteger, Float}

-- the position n further; one that no usize holds lies after every case, as the last one does
abbrev pub further : ℕ → ℕ → ℕ
further p n = min (p + n) (2 ^ 64 - 1)

-- the byte order, which a case says by one byte
abbrev pub order_of : ℕ → Endianness
order_of little = cond (eqb little 1) LittleEndian BigEndian

-- the type of its samples, by one byte too
abbrev pub type_of : ℕ → PCMDataType
type_of float = cond (eqb float 1) Float SignedInteger
