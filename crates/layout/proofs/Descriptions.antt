-- How long a `chan` body is, and how its descriptions grow label by label.
use mathlib.Core.Path.{◌≡◌, refl, ap, ◌∙◌}
use mathlib.Core.List.{List, [], ◌∷◌, ◌++◌, append_assoc, append-nil}
use Prim.Native.Nat.{ℕ, suc, ◌+◌, ◌*◌, ◌<◌, ◌≤◌}
use native.Mathlib.Omega.{arith}
use native.Mathlib.Numerals.{add-one}
use lib.ListN.{length, take, get_or}
use lib.Seq.{take-suc, length-take-le}
use Rattle.byte_order.specs.Splice.{splice, store_first}
use Rattle.byte_order.proofs.Budget.{whole-done}
use Rattle.byte_order.proofs.Laws.{more, length-splice}
use Rattle.layout.specs.Chan.{description, descriptions, chan_body, chan_size}

pub descriptions-length : (ls : List ℕ) → length (descriptions ls) ≡ 20 * length ls
descriptions-length [] = refl
descriptions-length (l ∷ ls) = let e = descriptions-length ls in omega arith

pub chan-length : (tag : ℕ) (ls : List ℕ) → length (chan_body tag ls) ≡ chan_size (length ls)
unfolding chan_body
chan-length tag ls = let e = descriptions-length ls in omega arith

descriptions-append : (xs ys : List ℕ) → descriptions (xs ++ ys) ≡ descriptions xs ++ descriptions ys
descriptions-append [] ys = refl
descriptions-append (x ∷ xs) ys = rw (descriptions-append xs ys, append_assoc)

-- the descriptions of the first labels: those of one label less, and one more
next-description : (ls : List ℕ) (i : ℕ) → i < length ls → descriptions (take (suc i) ls) ≡ descriptions (take i ls) ++ description (get_or ls i 0)
next-description ls i h =
    ap descriptions (take-suc ls i 0 h) ∙ descriptions-append (take i ls) (get_or ls i 0 ∷ []) ∙ ap (λ (r : List ℕ). descriptions (take i ls) ++ r) (append-nil (description (get_or ls i 0)))

first-length : (ls : List ℕ) (i : ℕ) → i ≤ length ls → length (descriptions (take i ls)) ≡ i * 20
first-length ls i h = let e = length-take-le i ls h in descriptions-length (take i ls) ∙ omega arith

-- one more is stored after those of the first i labels
pub described : (d : List ℕ) (at i : ℕ) (ls : List ℕ) {bytes e f : List ℕ} → i < length ls → at + 20 * length ls ≤ length d
    → length e ≡ length d → e ≡ splice d at (descriptions (take i ls)) → bytes ≡ description (get_or ls i 0) → f ≡ store_first 20 bytes (at + i * 20) e
    → (length f ≡ length d) × (f ≡ splice d at (descriptions (take (i + 1) ls)))
described d at i ls {bytes} {e} {f} h room same before is put =
    let one = description (get_or ls i 0) in
    let stored : f ≡ splice e (at + i * 20) one = put ∙ rw is (whole-done 20 (at + i * 20) one e refl (omega arith)) in (
      ap length stored ∙ length-splice e (at + i * 20) one (omega arith) ∙ same,
      rw (add-one, next-description ls i h) (more d at (i * 20) (descriptions (take i ls)) one before stored (first-length ls i (omega arith)) (omega arith)),
    )
