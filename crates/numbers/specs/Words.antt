-- Places of an array of numbers of 64 bits, and those of them that have to fit 32.
use Rattle.std.specs.Prelude.{ℕ, ◌^◌, ◌%◌, Bool, true, ◌&&◌, List, [], ◌∷◌, get_or, ltb}

abbrev pub at : List ℕ → ℕ → ℕ
at ns i = get_or ns i 0

-- a number of 32 bits
abbrev pub is_word : ℕ → Bool
is_word n = ltb n (2 ^ 32)

abbrev pub all_words : List ℕ → Bool
all_words [] = true
all_words (x ∷ xs) = is_word x && all_words xs

-- the low 32 bits of a place: the place itself where it is a word
abbrev pub low : List ℕ → ℕ → ℕ
low ns i = at ns i % 2 ^ 32
