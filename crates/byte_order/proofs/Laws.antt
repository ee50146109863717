-- Laws of big-endian numbers and of splices, over every width.
use mathlib.Core.Path.{◌≡◌, refl, sym, ◌∙◌, ap}
use mathlib.Core.List.{List, [], ◌++◌, append_assoc, append-nil}
use Prim.Native.Nat.{ℕ, zero, suc, ◌+◌, ◌/◌, ◌%◌, ◌^◌, ◌<◌, ◌≤◌}
use native.Mathlib.Nat.{pow-zero, pow-suc, add_assoc, add-zero, zero-add, mod-one, div-one, one-le-pow, div-div-eq-div-mul, mod-eq_of_lt}
use native.Mathlib.Omega.{arith}
use lib.Arith.{mod-mul}
use lib.Dec.{lit<}
use lib.ListN.{length, get_or, take, drop, length-append, length-take, length-drop, take-append-drop, get_or-append}
use lib.Seq.{take_at, drop_at, get_or-append-add, drop-drop, get_or-take, get_or-drop}
use Rattle.byte_order.specs.Big.{big_at, big_bytes}
use Rattle.byte_order.specs.Splice.{splice}

-- the bytes of a number are as many as the width says
pub length-bytes : (w n : ℕ) → length (big_bytes w n) ≡ w
length-bytes zero n = refl
length-bytes (suc w) n = ap suc (length-bytes w n)

-- a splice within the list keeps its length
pub length-splice : {A : Type 0} (d : List A) (at : ℕ) (bs : List A) → at + length bs ≤ length d → length (splice d at bs) ≡ length d
length-splice d at bs h = simp (length-append, length-take, length-drop) (omega arith)

-- one splice right after another is the splice of the two joined
pub splice-splice : (d : List ℕ) (at : ℕ) (cs bs : List ℕ) → at + length cs + length bs ≤ length d → splice (splice d at cs) (at + length cs) bs ≡ splice d at (cs ++ bs)
splice-splice d at cs bs h =
    let l : length (take at d ++ cs) ≡ at + length cs = simp (length-append, length-take) (omega arith) in
    let t : take (at + length cs) (splice d at cs) ≡ take at d ++ cs = take_at (take at d ++ cs) (drop (at + length cs) d) (at + length cs) l in
    let u : drop (at + length cs + length bs) (splice d at cs) ≡ drop (at + length cs + length bs) d =
    sym (drop-drop (length bs) (at + length cs) (splice d at cs)) ∙ ap (λ (r : List ℕ). drop (length bs) r) (drop_at (take at d ++ cs) (drop (at + length cs) d) (at + length cs) l) ∙ drop-drop (length bs) (at + length cs) d in
    rw (t, u, length-append) (simp (append_assoc, add_assoc))

-- the k-th byte of a number of w bytes
byte_at : (w n : ℕ) (rest : List ℕ) (k j : ℕ) → k + suc j ≡ w → get_or (big_bytes w n ++ rest) k 0 ≡ n / 256 ^ j % 256
byte_at zero n rest k j e = absurd (let z : ⊥ = omega arith in z)
byte_at (suc w) n rest zero j e = let h : w ≡ j = omega arith in rw h
byte_at (suc w) n rest (suc k) j e = byte_at w n rest k j (omega arith)

-- the first k of the w bytes stand for the number without its last j bytes
first : (w n : ℕ) (rest : List ℕ) (k j : ℕ) → k + j ≡ w → big_at k (big_bytes w n ++ rest) 0 ≡ n / 256 ^ j % 256 ^ k
first w n rest zero j e = simp (pow-zero, mod-one)
first w n rest (suc k) j e =
    let a : big_at k (big_bytes w n ++ rest) 0 ≡ n / 256 ^ suc j % 256 ^ k = first w n rest k (suc j) (omega arith) in
    let b : get_or (big_bytes w n ++ rest) (0 + k) 0 ≡ n / 256 ^ j % 256 = rw zero-add (byte_at w n rest k j (omega arith)) in
    let d : n / 256 ^ suc j ≡ n / 256 ^ j / 256 = rw (pow-suc) (sym (div-div-eq-div-mul n (256 ^ j) 256)) in
    rw (a, b, d, pow-suc) (sym (mod-mul (n / 256 ^ j) (one-le-pow k 256 (lit< tt)) (lit< tt)))

-- what was stored is read again
pub big-bytes : (w n : ℕ) (rest : List ℕ) → big_at w (big_bytes w n ++ rest) 0 ≡ n % 256 ^ w
big-bytes w n rest = first w n rest w 0 (omega arith) ∙ simp (pow-zero, div-one)

-- a run of stores, one after the other, is one splice: k bytes were stored, and these follow them
pub more : (d : List ℕ) (at k : ℕ) (cs bs : List ℕ) {e f : List ℕ} → e ≡ splice d at cs → f ≡ splice e (at + k) bs → length cs ≡ k → at + k + length bs ≤ length d → f ≡ splice d at (cs ++ bs)
more d at k cs bs p q l h = q ∙ rw (p, ← l) (splice-splice d at cs bs (rw l h))

pub splice-nil : (d : List ℕ) (at : ℕ) → splice d at [] ≡ d
splice-nil d at = rw (add-zero, append-nil) (take-append-drop at d)

-- a number that stands past a front part is read there, and one within a front part is read there
pub big-past : (w : ℕ) (xs ys : List ℕ) (k : ℕ) → big_at w (xs ++ ys) (length xs + k) ≡ big_at w ys k
big-past zero xs ys k = refl
big-past (suc w) xs ys k = rw (big-past w xs ys k, add_assoc, get_or-append-add)

pub big-within : (w : ℕ) (xs ys : List ℕ) (at : ℕ) → at + w ≤ length xs → big_at w (xs ++ ys) at ≡ big_at w xs at
big-within zero xs ys at h = refl
big-within (suc w) xs ys at h = rw (big-within w xs ys at (omega arith), get_or-append xs ys 0 (at + w) (omega arith))

-- a number that fits its width is read as it was written
pub kept : (w n : ℕ) (rest : List ℕ) → n < 256 ^ w → big_at w (big_bytes w n ++ rest) 0 ≡ n
kept w n rest h = big-bytes w n rest ∙ mod-eq_of_lt h

-- a number within a part of a list is read from the whole list
pub big-part : (w : ℕ) (s : List ℕ) (p n k : ℕ) → k + w ≤ n → big_at w (take n (drop p s)) k ≡ big_at w s (p + k)
big-part zero s p n k h = refl
big-part (suc w) s p n k h = rw (big-part w s p n k (omega arith), get_or-take n (drop p s) (k + w) 0 (omega arith), get_or-drop, add_assoc)
