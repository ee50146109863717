-- Laws of tests: what a chain of refusals and a conjunction tell.
use mathlib.Core.Path.{◌≡◌, refl}
use mathlib.Core.Bool.{Bool, true, false, cond, ◌&&◌, ◌||◌, true≢false}
use Prim.Native.Nat.{ℕ, ◌<◌}
use native.Mathlib.Omega.{arith}

pub two : (a b : Bool) → a && b ≡ true → (a ≡ true) × (b ≡ true)
two true b h = (refl, h)
two false b h = (h, cc)

pub three : (a b c : Bool) → a && b && c ≡ true → (a ≡ true) × (b ≡ true) × (c ≡ true)
three a b c h = let p = two (a && b) c h in let q = two a b p.0 in (q.0, q.1, p.1)

pub four : (a b c d : Bool) → a && b && c && d ≡ true → (a ≡ true) × (b ≡ true) × (c ≡ true) × (d ≡ true)
four a b c d h = let p = two (a && b && c) d h in let q = three a b c p.0 in (q.0, q.1, q.2, p.1)

pub both : (a b : Bool) → a ≡ true → b ≡ true → a && b ≡ true
both a b p q = rw (p, q)

pub all-four : (a b c d : Bool) → a ≡ true → b ≡ true → c ≡ true → d ≡ true → a && b && c && d ≡ true
all-four a b c d p q r s = rw (p, q, r, s)

pub true-false : true ≡ false → ⊥
true-false e = true≢false e

pub neither : (a b : Bool) → a || b ≡ false → (a ≡ false) × (b ≡ false)
neither true b h = (h, cc)
neither false b h = (refl, h)

-- a refusal that did not apply
pub pass : (b : Bool) (k m : ℕ) → 0 < k → cond b k m ≡ 0 → (b ≡ false) × (m ≡ 0)
pass true k m p h = absurd (let z : ⊥ = omega arith in z)
pass false k m p h = (refl, h)
