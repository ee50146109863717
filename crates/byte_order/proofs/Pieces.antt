-- A copy in pieces: where the first i elements are copied, and the next k are put after them, the first i + k are.
use mathlib.Core.Path.{◌≡◌, sym, ◌∙◌, ap}
use mathlib.Core.List.{List, ◌++◌, append_assoc}
use Prim.Native.Nat.{ℕ, ◌+◌, ◌-◌, ◌≤◌}
use native.Mathlib.Omega.{arith}
use lib.ListN.{length, take, drop, length-append, length-take, length-drop}
use lib.Seq.{take-add, take_at, length-take-le}
use borrow.Rule.Slice.PartMut.{put_mid, post_of}

pub next-piece : (i k : ℕ) (to from part : List ℕ) → i + k ≤ length from → length to ≡ length from → take i to ≡ take i from → part ≡ take (i + k - i) (drop i from)
    → (length (put_mid i (i + k - i) to part) ≡ length from) × (take (i + k) (put_mid i (i + k - i) to part) ≡ take (i + k) from)
next-piece i k to from part within same before is =
    let m : i + k - i ≡ k = omega arith in
    let e : part ≡ take k (drop i from) = is ∙ rw m in
    let lp : length part ≡ k = ap length e ∙ simp (length-take, length-drop) (omega arith) in
    let lt : length (take i to) ≡ i = length-take-le i to (omega arith) in
    let post = post_of i (i + k - i) to in
    let l : length (take i to ++ part) ≡ i + k = simp length-append (omega arith) in
    let lpost : length post ≡ length to - i - k = simp (length-drop, m) in
    (simp length-append (omega arith), ap (take (i + k)) (sym (append_assoc (take i to) part post)) ∙ take_at (take i to ++ part) post (i + k) l ∙ rw (before, e) (sym (take-add i k from)))
