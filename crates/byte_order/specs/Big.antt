-- Big-endian numbers of any width, the most significant byte first. CAF stores every field of a file this way.
use Rattle.std.specs.Prelude.{ℕ, zero, suc, ◌+◌, ◌*◌, ◌/◌, ◌%◌, ◌^◌, List, [], ◌∷◌, get_or}

-- the number that the w bytes of s from position p stand for
abbrev pub big_at : ℕ → List ℕ → ℕ → ℕ
big_at zero s p = 0
big_at (suc w) s p = big_at w s p * 256 + get_or s (p + w) 0

-- the w bytes of n (of n mod 256^w, where n is larger)
abbrev pub big_bytes : ℕ → ℕ → List ℕ
big_bytes zero n = []
big_bytes (suc w) n = (n / 256 ^ w) % 256 ∷ big_bytes w n
