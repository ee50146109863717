-- What a run of stores leaves: the values where they were stored, every other place as it was, and the length.
use mathlib.Core.Path.{◌≡◌, refl, sym, ◌∙◌, ap}
use mathlib.Core.Bool.{Bool, true, false, cond}
use mathlib.Core.List.{List, ◌++◌, append_assoc}
use Prim.Native.Nat.{ℕ, ◌+◌, ◌-◌, ◌<◌, ◌≤◌, ◌^◌, min}
use native.Mathlib.Omega.{arith}
use lib.ListN.{length, get_or, take, drop, length-append, length-take}
use lib.Seq.{length-take-le, take_at, drop_at, get_or-take, get_or-drop}
use borrow.Author.Tests.{leb-true}
use Rattle.byte_order.specs.Big.{big_at, big_bytes}
use Rattle.byte_order.specs.Splice.{splice, has_room, store_count, store_first}
use Rattle.byte_order.proofs.Laws.{length-splice, big-past, kept}

module _ {A : Type 0} (buf : List A) (p : ℕ) (vs : List A) (room : p + length vs ≤ length buf) where
  head : length (take p buf) ≡ p
  head = length-take-le p buf (omega arith)

  stored : length (take p buf ++ vs) ≡ p + length vs
  stored = rw length-append (omega (arith, head))

  pub front_kept : take p (splice buf p vs) ≡ take p buf
  front_kept = rw append_assoc (take_at (take p buf) (vs ++ drop (p + length vs) buf) p head)

  pub rest-kept : drop (p + length vs) (splice buf p vs) ≡ drop (p + length vs) buf
  rest-kept = drop_at (take p buf ++ vs) (drop (p + length vs) buf) (p + length vs) stored

  pub values-there : take (length vs) (drop p (splice buf p vs)) ≡ vs
  values-there = rw append_assoc (ap (take (length vs)) (drop_at (take p buf) (vs ++ drop (p + length vs) buf) p head) ∙ take_at vs (drop (p + length vs) buf) (length vs) refl)

  -- the same, element by element
  pub before-kept : (i : ℕ) (d : A) → i < p → get_or (splice buf p vs) i d ≡ get_or buf i d
  before-kept i d h = sym (get_or-take p (splice buf p vs) i d h) ∙ ap (λ (l : List A). get_or l i d) front_kept ∙ get_or-take p buf i d h

  pub after_kept : (i : ℕ) (d : A) → p + length vs ≤ i → get_or (splice buf p vs) i d ≡ get_or buf i d
  after_kept i d h =
      let e : p + length vs + (i - (p + length vs)) ≡ i = omega arith in
      rw (← e) (sym (get_or-drop (p + length vs) (splice buf p vs) (i - (p + length vs)) d) ∙ ap (λ (l : List A). get_or l (i - (p + length vs)) d) rest-kept ∙ get_or-drop (p + length vs) buf (i - (p + length vs)) d)

  pub value_there : (i : ℕ) (d : A) → i < length vs → get_or (splice buf p vs) (p + i) d ≡ get_or vs i d
  value_there i d h =
      sym (get_or-drop p (splice buf p vs) i d) ∙ sym (get_or-take (length vs) (drop p (splice buf p vs)) i d h) ∙ ap (λ (l : List A). get_or l i d) values-there

-- a number that fits its width is read where it was stored
pub big-there : (w n p : ℕ) (buf : List ℕ) → p + w ≤ length buf → n < 256 ^ w → big_at w (splice buf p (big_bytes w n)) p ≡ n
big-there w n p buf room fits =
    let rest = drop (p + length (big_bytes w n)) buf in
    let l : p ≡ length (take p buf) + 0 = omega (arith, length-take-le p buf (omega arith)) in
    ap (λ (s : List ℕ). big_at w s p) (append_assoc (take p buf) (big_bytes w n) rest)
    ∙ ap (big_at w (take p buf ++ (big_bytes w n ++ rest))) l
    ∙ big-past w (take p buf) (big_bytes w n ++ rest) 0
    ∙ kept w n rest fits

-- stores with a budget: so many places from p on have the first values, and all others are as they were
module _ {A : Type 0} (n : ℕ) (vs : List A) (p : ℕ) (buf : List A) where
  many : length (take n vs) ≡ min n (length vs)
  many = length-take n vs

  -- what holds where nothing is stored, and where all is stored that the budget allows
  by-room : (P : List A → ℕ → Type 0) → P buf 0 → (p + length (take n vs) ≤ length buf → P (splice buf p (take n vs)) (min n (length vs)))
      → P (store_first n vs p buf) (store_count n (length vs) p (length buf))
  by-room P none all = go (has_room p (min n (length vs)) (length buf)) refl
    where
      go : (b : Bool) → has_room p (min n (length vs)) (length buf) ≡ b → P (cond b (splice buf p (take n vs)) buf) (cond b (min n (length vs)) 0)
      go true e = all (omega (arith, many, leb-true (p + min n (length vs)) (length buf) e))
      go false e = none

  pub length-store : length (store_first n vs p buf) ≡ length buf
  length-store = by-room (λ (l : List A) (k : ℕ). length l ≡ length buf) refl (λ room. length-splice buf p (take n vs) room)

  pub store-before : (i : ℕ) (d : A) → i < p → get_or (store_first n vs p buf) i d ≡ get_or buf i d
  store-before i d h = by-room (λ (l : List A) (k : ℕ). get_or l i d ≡ get_or buf i d) refl (λ room. before-kept buf p (take n vs) room i d h)

  pub store-after : (i : ℕ) (d : A) → p + store_count n (length vs) p (length buf) ≤ i → get_or (store_first n vs p buf) i d ≡ get_or buf i d
  store-after i d =
      by-room (λ (l : List A) (k : ℕ). p + k ≤ i → get_or l i d ≡ get_or buf i d) (λ h. refl)
      (λ room h. after_kept buf p (take n vs) room i d (omega (arith, many)))

  pub store-there : (i : ℕ) (d : A) → i < store_count n (length vs) p (length buf) → get_or (store_first n vs p buf) (p + i) d ≡ get_or vs i d
  store-there i d =
      by-room (λ (l : List A) (k : ℕ). i < k → get_or l (p + i) d ≡ get_or vs i d) (λ h. absurd (let no : ⊥ = omega arith in no))
      (λ room h. value_there buf p (take n vs) room i d (omega (arith, many)) ∙ get_or-take n vs i d (omega arith))
