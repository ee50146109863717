-- Facts of choices and of joined tests.
use mathlib.Core.Path.{◌≡◌, refl}
use mathlib.Core.Bool.{Bool, true, false, cond, ◌&&◌}

-- a fact of a choice, from a fact of each side
module _ {A : Type 0} (P : A → Type 0) where
  pub either : (b : Bool) {x y : A} → (b ≡ true → P x) → (b ≡ false → P y) → P (cond b x y)
  either true f g = f refl
  either false f g = g refl

-- two tests that hold together hold each
pub both : (a b : Bool) → a && b ≡ true → (a ≡ true) × (b ≡ true)
both true b h = (refl, h)
both false b h = (h, cc)
