-- The law of the search in a whole file: it is what the chunk at its position leads to.
use mathlib.Core.Path.{◌≡◌, refl}
use mathlib.Core.Bool.{Bool, true, false, cond}
use mathlib.Core.List.{List}
use Prim.Native.Nat.{ℕ, zero, suc, ◌+◌, ◌-◌, ◌<◌, ◌≤◌}
use native.Mathlib.Omega.{arith}
use lib.ListN.{length}
use lib.Dec.{ltb}
use borrow.Author.Tests.{ltb-false}
use Rattle.reading.specs.Types.{'chan', 'data', file_header_size}
use Rattle.reading.specs.Step.{left, stands_at, size_at, body_at}
use Rattle.chan_reading.specs.Find.{find_step, find_within, find_from}
use Rattle.chan_reading.specs.Claims.{FoundWithin}
use Rattle.std.proofs.Common.{Option, Some, None}
use Rattle.reading.specs.declared.Body.{Body}

module _ (s : List ℕ) where
  -- two ways on are as their steps are: a place that is found lies within the file, and the way on goes ahead within it
  steps-are : (R : Option Body → Option Body → Type 0) (on on' : ℕ → Option Body) (p : ℕ) → R None None
      → ((b : Body) → b.start + b.size ≤ length s → R (Some b) (Some b))
      → ((q : ℕ) → p + 12 ≤ q → q ≤ length s → R (on q) (on' q)) → R (find_step on s p) (find_step on' s p)
  steps-are R on on' p nowhere here ahead =
      by (ltb (left s p) 12) (stands_at s p 'data') (ltb (left s (body_at p)) (size_at s p)) (stands_at s p 'chan') refl refl
    where
      by : (a b c d : Bool) → ltb (left s p) 12 ≡ a → ltb (left s (body_at p)) (size_at s p) ≡ c
          → R (cond a None (cond b None (cond c None (cond d (Some (record { start = body_at p; size = size_at s p })) (on (body_at p + size_at s p))))))
          (cond a None (cond b None (cond c None (cond d (Some (record { start = body_at p; size = size_at s p })) (on' (body_at p + size_at s p))))))
      by true b c d x y = nowhere
      by false true c d x y = nowhere
      by false false true d x y = nowhere
      by false false false true x y =
          let h = ltb-false (left s p) 12 x in
          let g = ltb-false (left s (body_at p)) (size_at s p) y in
          here (record { start = body_at p; size = size_at s p }) (omega arith)
      by false false false false x y =
          let h = ltb-false (left s p) 12 x in
          let g = ltb-false (left s (body_at p)) (size_at s p) y in
          ahead (body_at p + size_at s p) (omega arith) (omega arith)

  agree : (on on' : ℕ → Option Body) (p : ℕ) → ((q : ℕ) → p + 12 ≤ q → q ≤ length s → on q ≡ on' q) → find_step on s p ≡ find_step on' s p
  agree on on' p h = steps-are (λ x y. x ≡ y) on on' p refl (λ b _. refl) h

  -- more steps than are needed change nothing
  enough : (n m p : ℕ) → length s - p < n → length s - p < m → find_within n s p ≡ find_within m s p
  unfolding find_within
  enough zero m p h g = absurd (let z : ⊥ = omega arith in z)
  enough (suc n) zero p h g = absurd (let z : ⊥ = omega arith in z)
  enough (suc n) (suc m) p h g = agree (find_within n s) (find_within m s) p (λ q a b. enough n m q (omega arith) (omega arith))

  pub find-on : (p : ℕ) → find_from s p ≡ find_step (find_from s) s p
  unfolding find_from find_within
  find-on p = agree (find_within (length s - p) s) (find_from s) p (λ q a b. enough (length s - p) (suc (length s - q)) q (omega arith) (omega arith))

  -- a place within the file, or none
  abbrev Inside : Option Body → Type 0
  Inside (Some b) = b.start + b.size ≤ length s
  Inside None = Unit {0}

  inside : (n p : ℕ) → Inside (find_within n s p)
  unfolding find_within
  inside zero p = tt
  inside (suc n) p = steps-are (λ x y. Inside x) (find_within n s) (find_within n s) p tt (λ b h. h) (λ q a b. inside n q)

pub found_within : FoundWithin
unfolding find_from
found_within s body e = rw e at (inside s (suc (length s - file_header_size)) file_header_size)
