-- A digest of a file's bytes, in which every byte counts, and its place.
use Rattle.std.specs.Prelude.{ℕ, ◌+◌, ◌*◌, ◌%◌, ◌^◌, List, [], ◌∷◌, length}

-- the sum of the bytes, each times 1000003 for every byte after it
unfoldable pub weighed : List ℕ → ℕ
weighed [] = 0
weighed (b ∷ bytes) = b * 1000003 ^ length bytes + weighed bytes

-- its low 32 bits
abbrev pub digest_of : List ℕ → ℕ
digest_of bytes = weighed bytes % 2 ^ 32
