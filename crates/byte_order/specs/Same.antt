-- When two lists of numbers are the same.
use Rattle.std.specs.Prelude.{ℕ, Bool, true, false, ◌&&◌, List, [], ◌∷◌, eqb}

-- the same numbers in the same order, and as many
abbrev pub exactly : List ℕ → List ℕ → Bool
exactly [] [] = true
exactly [] (y ∷ ys) = false
exactly (x ∷ xs) [] = false
exactly (x ∷ xs) (y ∷ ys) = eqb x y && exactly xs ys
