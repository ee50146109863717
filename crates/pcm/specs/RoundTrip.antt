-- What comes back of packed samples. The proofs are in proofs/RoundTrip.antt.
use Rattle.std.specs.Prelude.{ℕ, ◌*◌, ◌≤◌, ◌≡◌, List, [], ◌∷◌, map, length, take, ℤ}
use Rattle.answers.specs.Numbers.{done}
use Rattle.byte_order.specs.Splice.{splice}
use Rattle.format.specs.declared.Endianness.{Endianness}
use Rattle.pcm.specs.Sample.{low24, signed24, In24}
use Rattle.pcm.specs.Packing.{sample_size, packed, pack_number, pack_into}
use Rattle.pcm.specs.Unpacking.{unpacked, unpack_number, unpack_into}

-- every sample of a list lies in -8388608..8388607
abbrev pub AllIn24 : List ℤ → Type 0
AllIn24 [] = Unit {0}
AllIn24 (x ∷ xs) = In24 x × AllIn24 xs

-- what 24 bits keep of each sample: x mod 2^24 with its sign
abbrev pub kept24 : List ℤ → List ℤ
kept24 xs = map (λ x. signed24 (low24 x)) xs

-- 01, The file being made: samples that 24 bits can hold come back unchanged, in either byte order
abbrev pub RoundTrip : Type 0
RoundTrip = (e : Endianness) (xs : List ℤ) → AllIn24 xs → unpacked e (packed e xs) ≡ xs

-- and of any sample comes back what 24 bits keep of it
abbrev pub RoundTripAny : Type 0
RoundTripAny = (e : Endianness) (xs : List ℤ) → unpacked e (packed e xs) ≡ kept24 xs

-- the same of the two calls: what `pack` put into a slice with room, `unpack` takes out of its front again
abbrev pub UnpackOfPack : Type 0
UnpackOfPack =
    (e : Endianness) (xs : List ℤ) (bytes : List ℕ) (out : List ℤ) →
    pack_number xs (length bytes) ≡ done →
    length xs ≤ length out →
    (unpack_number (take (sample_size * length xs) (pack_into e xs bytes)) (length out) ≡ done)
    × (unpack_into e (take (sample_size * length xs) (pack_into e xs bytes)) out ≡ splice out 0 (kept24 xs))
