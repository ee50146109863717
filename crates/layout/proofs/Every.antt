-- A test that is computed over a whole table, and what it says of each row.
use mathlib.Core.Path.{◌≡◌, refl}
use mathlib.Core.Bool.{Bool, true, false, ◌&&◌}
use mathlib.Core.List.{List, [], ◌∷◌}
use Prim.Native.Nat.{ℕ, zero, suc, ◌<◌}
use native.Mathlib.Omega.{arith}
use lib.ListN.{length, get_or}
use Rattle.layout.specs.Table.{StandardLayout, beyond}

abbrev pub every : (StandardLayout → Bool) → List StandardLayout → Bool
every p [] = true
every p (r ∷ rs) = p r && every p rs

pub both : (a b : Bool) → a && b ≡ true → (a ≡ true) × (b ≡ true)
both true b h = (refl, h)
both false b h = (h, cc)

pub each : (p : StandardLayout → Bool) (rs : List StandardLayout) (i : ℕ) → every p rs ≡ true → i < length rs → p (get_or rs i beyond) ≡ true
each p [] i t h = absurd (let z : ⊥ = omega arith in z)
each p (r ∷ rs) zero t h = (both (p r) (every p rs) t).0
each p (r ∷ rs) (suc i) t h = each p rs i (both (p r) (every p rs) t).1 (omega arith)
