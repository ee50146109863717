-- What a run of stores with a budget does: all that the budget allows where they have room, and nothing where they have none.
use mathlib.Core.Path.{◌≡◌, refl, sym, ◌∙◌, ap}
use mathlib.Core.Bool.{Bool, true, false, cond}
use mathlib.Core.List.{List, [], ◌∷◌, ◌++◌, append_assoc}
use Prim.Native.Nat.{ℕ, zero, suc, ◌+◌, ◌-◌, ◌<◌, ◌≤◌, min}
use native.Mathlib.Nat.{zero-min, min-zero, suc-min-suc}
use native.Mathlib.Omega.{arith}
use lib.ListN.{length, take, drop, length-take, length-append}
use lib.Seq.{take_all, take_at, drop_at}
use lib.Dec.{eqb}
use borrow.Rule.Slice.PartMut.{put_mid, post_of, Post-is}
use borrow.Author.Tests.{le-leb, lt-leb, eq-eqb, ne_eqb}
use Rattle.byte_order.specs.Big.{big_bytes}
use Rattle.byte_order.specs.Splice.{splice, has_room, store_count, store_first}
use Rattle.byte_order.proofs.Laws.{length-bytes}

pub take_min : (n : ℕ) (l : List ℕ) → take (min n (length l)) l ≡ take n l
take_min zero l = rw zero-min
take_min (suc n) [] = rw min-zero
take_min (suc n) (x ∷ xs) = rw (suc-min-suc, take_min n xs)

module _ (n at : ℕ) (bytes buf : List ℕ) where
  pub none_done : length buf < at + min n (length bytes) → (0 ≡ store_count n (length bytes) at (length buf)) × (buf ≡ store_first n bytes at buf)
  none_done h = let no = lt-leb _ _ h in (rw no, rw no)

  pub all_done : at + min n (length bytes) ≤ length buf → (min n (length bytes) ≡ store_count n (length bytes) at (length buf)) × (splice buf at (take n bytes) ≡ store_first n bytes at buf)
  all_done h = let yes = le-leb _ _ h in (rw yes, rw yes)

  -- with a budget for all of them and room
  pub whole-done : length bytes ≡ n → at + n ≤ length buf → store_first n bytes at buf ≡ splice buf at bytes
  whole-done e h = sym (all_done (omega arith)).1 ∙ ap (λ (bs : List ℕ). splice buf at bs) (take_all n bytes (omega arith))

  -- k stores went to a part of the buffer of their own, which is put back
  pub part-done : (k : ℕ) (part : List ℕ) → k ≡ min n (length bytes) → part ≡ take k bytes → at + k ≤ length buf → (k ≡ store_count n (length bytes) at (length buf)) × (put_mid at (at + k - at) buf part ≡ store_first n bytes at buf)
  part-done k part is p h =
      let stored : part ≡ take n bytes = p ∙ rw is (take_min n bytes) in
      let many : length (take n bytes) ≡ k = length-take n bytes ∙ sym is in
      let rest : post_of at (at + k - at) buf ≡ drop (at + length (take n bytes)) buf = Post-is at (at + k) buf (omega arith) ∙ rw many in
      let all = all_done (rw (← is) h) in
      (is ∙ all.0, rw (stored, rest) (sym (append_assoc (take at buf) (take n bytes) _)) ∙ all.1)

-- a number of w bytes is stored whole or not at all, so the count tells whether it had room
told : (w : ℕ) (b : Bool) → 0 < w → eqb (cond b w 0) w ≡ b
told w true h = eq-eqb w w refl
told w false h = ne_eqb 0 w (λ e. let no : ⊥ = omega arith in no)

pub put-done : (w n at : ℕ) (buf : List ℕ) {bytes last : List ℕ} {count : ℕ} → 0 < w → bytes ≡ big_bytes w n
    → (count ≡ store_count w (length bytes) at (length buf)) × (last ≡ store_first w bytes at buf)
    → (eqb count w ≡ has_room at w (length buf)) × (last ≡ store_first w (big_bytes w n) at buf)
put-done w n at buf {bytes} {last} {count} h is done =
    let many : min w (length bytes) ≡ w = rw (is, length-bytes) (omega arith) in
    (rw (done.0, many) (told w (has_room at w (length buf)) h), rw (← is) done.1)

-- a number put right after a front part takes the place of what stood there
pub put-after : (w n k : ℕ) (front old rest : List ℕ) {before after : List ℕ} → length front ≡ k → length old ≡ w → before ≡ front ++ old ++ rest
    → after ≡ store_first w (big_bytes w n) k before → after ≡ front ++ big_bytes w n ++ rest
put-after w n k front old rest {before} {after} lf lo is put =
    let bytes = big_bytes w n in
    let whole = front ++ old ++ rest in
    let lb : length bytes ≡ w = length-bytes w n in
    let lw : length whole ≡ k + w + length rest = simp length-append (omega arith) in
    let stored : after ≡ splice whole k (take w bytes) = put ∙ rw is (sym (all_done w k bytes whole (omega arith)).1) in
    let all : take w bytes ≡ bytes = take_all w bytes (omega arith) in
    let head : take k whole ≡ front = rw append_assoc (take_at front (old ++ rest) k lf) in
    let tail : drop (k + length bytes) whole ≡ rest = drop_at (front ++ old) rest (k + length bytes) (rw length-append (omega arith)) in
    stored ∙ rw (all, head, tail)
