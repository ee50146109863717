-- Labels in an array that has more places than they need.
use Rattle.std.specs.Prelude.{ℕ, ◌-◌, List, ◌++◌, length, replicate}

-- the labels, and zeros after them in so many places
abbrev pub padded_to : ℕ → List ℕ → List ℕ
padded_to places ls = ls ++ replicate (places - length ls) 0
