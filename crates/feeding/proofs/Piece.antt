-- A piece that was collected says what the file says at its place.
use mathlib.Core.Path.{◌≡◌, refl, sym, ◌∙◌, ap, subst}
use mathlib.Core.List.{List, ◌++◌}
use Prim.Native.Nat.{ℕ, zero, suc, ◌+◌, ◌<◌, ◌≤◌}
use native.Mathlib.Nat.{add-zero, add_assoc}
use native.Mathlib.Omega.{arith}
use lib.ListN.{length, get_or, take, drop, length-append, length-drop}
use lib.Seq.{take-append_seam, take_at, drop_at, take-take, take-add, drop-drop, get_or-take, get_or-drop, length-take-le}
use Rattle.byte_order.specs.Big.{big_at}
use Rattle.byte_order.specs.Same.{exactly}
use Rattle.byte_order.specs.Splice.{splice}
use Rattle.byte_order.proofs.Laws.{length-splice}
use Rattle.format.specs.Desc.{format_at}
use Rattle.reading.specs.Step.{stands_at, size_at, bad_rate_at}

-- the first n bytes of h are those of s from p on
pub record Holds (h : List ℕ) (n : ℕ) (s : List ℕ) (p : ℕ) : Type 0 where
  pub same : take n h ≡ take n (drop p s)
  pub room : n ≤ length h
  pub within : p + n ≤ length s

-- nothing of a piece yet
pub holds-none : (h s : List ℕ) (p : ℕ) → p ≤ length s → Holds h 0 s p
holds-none h s p l = record { same = refl; room = omega arith; within = omega arith }

pub holds_as : {h s : List ℕ} {n m p : ℕ} → Holds h n s p → n ≡ m → Holds h m s p
holds_as {h = h} {s = s} {p = p} o e = subst (λ (x : ℕ). Holds h x s p) e o

-- more bytes of it
pub holds_more : (h : List ℕ) (n : ℕ) (s : List ℕ) (p : ℕ) (cs rest : List ℕ) → Holds h n s p → n + length cs ≤ length h → drop (p + n) s ≡ cs ++ rest
    → Holds (splice h n cs) (n + length cs) s p
holds_more h n s p cs rest o l e =
    let z = ap length e ∙ length-append cs rest in
    let y = length-drop (p + n) s in
    let x = length-take-le n h o.room in
    let g : length (take n h ++ cs) ≡ n + length cs = rw length-append (omega arith) in
    record {
      same =
          take_at (take n h ++ cs) (drop (n + length cs) h) (n + length cs) g
          ∙ sym (take-add n (length cs) (drop p s) ∙ rw (drop-drop n p s, e, take-append_seam cs rest, o.same));
      room = rw (length-splice h n cs l) l;
      within = omega (arith, o.within);
    }

module _ (h : List ℕ) (n : ℕ) (s : List ℕ) (p : ℕ) (o : Holds h n s p) where
  -- the part of m bytes from q on
  part_same : (q m : ℕ) → q + m ≤ n → take m (drop q h) ≡ take m (drop (p + q) s)
  part_same q m l =
      let a : take (q + m) h ≡ take (q + m) (drop p s) =
      sym (take-take (q + m) n h l) ∙ ap (λ (x : List ℕ). take (q + m) x) o.same ∙ take-take (q + m) n (drop p s) l in
      let b : length (take q h) ≡ q = length-take-le q h (omega (arith, o.room)) in
      let c : length (take q (drop p s)) ≡ q = length-take-le q (drop p s) (rw length-drop (omega (arith, o.within))) in
      sym (drop_at (take q h) (take m (drop q h)) q b)
      ∙ ap (λ (x : List ℕ). drop q x) (sym (take-add q m h) ∙ a ∙ take-add q m (drop p s))
      ∙ drop_at (take q (drop p s)) (take m (drop q (drop p s))) q c
      ∙ ap (λ (x : List ℕ). take m x) (drop-drop q p s)

  pub stands_same : (q : ℕ) (t : List ℕ) → q + length t ≤ n → stands_at h q t ≡ stands_at s (p + q) t
  stands_same q t l = ap (λ (x : List ℕ). exactly x t) (part_same q (length t) l)

  byte-same : (q : ℕ) → q < n → get_or h q 0 ≡ get_or s (p + q) 0
  byte-same q l = sym (get_or-take n h q 0 l) ∙ ap (λ (x : List ℕ). get_or x q 0) o.same ∙ get_or-take n (drop p s) q 0 l ∙ get_or-drop p s q 0

  pub big-same : (w q : ℕ) → q + w ≤ n → big_at w h q ≡ big_at w s (p + q)
  big-same zero q l = refl
  big-same (suc w) q l = rw (big-same w q (omega arith), byte-same (q + w) (omega arith), add_assoc)

  big-front : (w : ℕ) → w ≤ n → big_at w h 0 ≡ big_at w s p
  big-front w l = big-same w 0 (omega arith) ∙ ap (λ (q : ℕ). big_at w s q) (add-zero p)

  pub stands-front : (t : List ℕ) → length t ≤ n → stands_at h 0 t ≡ stands_at s p t
  stands-front t l = stands_same 0 t (omega arith) ∙ ap (λ (q : ℕ). stands_at s q t) (add-zero p)

  pub size_same : 12 ≤ n → size_at h 0 ≡ size_at s p
  size_same l = big-same 8 4 (omega arith)

  pub rate-same : 8 ≤ n → bad_rate_at h 0 ≡ bad_rate_at s p
  rate-same l = rw (big-front 8 l)

  pub format-same : 32 ≤ n → format_at h 0 ≡ format_at s p
  unfolding format_at
  format-same l =
      rw (
        big-front 8 (omega arith),
        big-same 4 8 (omega arith),
        big-same 4 12 (omega arith),
        big-same 4 16 (omega arith),
        big-same 4 20 (omega arith),
        big-same 4 24 (omega arith),
        big-same 4 28 (omega arith),
      )
