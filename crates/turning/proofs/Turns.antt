-- A turn: samples that are unpacked into numbers and packed from them are put turned.
use mathlib.Core.Path.{◌≡◌, sym, ap, ◌∙◌}
use mathlib.Core.List.{List, [], ◌∷◌, ◌++◌}
use Prim.Native.Nat.{ℕ, zero, suc, min, ◌+◌, ◌*◌, ◌/◌, ◌%◌, ◌<◌, ◌≤◌}
use native.Mathlib.Omega.{arith}
use lib.IntN.{ℤ}
use lib.ListN.{length, take, drop, get_or, length-take}
use Rattle.std.proofs.lemmas.List.{drop-drop}
use lib.Seq.{take_all, take_at, take-add, length-take-le, take-append_seam, drop-append_seam}
use borrow.Author.Tests.{eq-eqb, le-ltb, le-leb}
use Rattle.byte_order.specs.Splice.{splice, store_first}
use Rattle.byte_order.proofs.Laws.{more}
use Rattle.format.specs.declared.Endianness.TheVariants.{BigEndian, LittleEndian}
use Rattle.pcm.specs.Packing.{sample_size, packed}
use Rattle.pcm.specs.Unpacking.{unpacked, unpack_into}
use Rattle.pcm.proofs.Packed.{take-packed}
use Rattle.pcm.proofs.Unpacked.{length-unpacked}
use Rattle.turning.specs.Turned.{turned}
use Rattle.turning.specs.Claims.{Bytes}
use Rattle.turning.proofs.Swaps.{length-turned, turned-append}
use Rattle.turning.proofs.Turned.{turned-means}

-- a list whose elements are bytes
are-bytes : (s : List ℕ) → ((i : ℕ) → get_or s i 0 < 256) → Bytes s
are-bytes [] h = tt
are-bytes (b ∷ s) h = (h 0, are-bytes s (λ i. h (suc i)))

bytes_drop : (p : ℕ) (s : List ℕ) → Bytes s → Bytes (drop p s)
bytes_drop zero s h = h
bytes_drop (suc p) [] h = tt
bytes_drop (suc p) (b ∷ s) h = bytes_drop p s h.1

bytes_take : (n : ℕ) (s : List ℕ) → Bytes s → Bytes (take n s)
bytes_take zero s h = tt
bytes_take (suc n) [] h = tt
bytes_take (suc n) (b ∷ s) h = (h.0, bytes_take n s h.1)

pub part_bytes : (s : List ℕ) (p n : ℕ) → ((i : ℕ) → get_or s i 0 < 256) → Bytes (take n (drop p s))
part_bytes s p n h = bytes_take n (drop p s) (bytes_drop p s (are-bytes s h))

-- what was spliced in at the start
front : (us ns : List ℤ) (n : ℕ) → length us ≡ n → take n (splice ns 0 us) ≡ us
front us ns n e = take_at us (drop (0 + length us) ns) n e

module _ (s : List ℕ) (bytes : Bytes s) (whole : length s % 3 ≡ 0) where
  abbrev n : ℕ
  n = length s / 3

  all : take (sample_size * n) s ≡ s
  all = let e : sample_size * n ≡ length s = omega arith in ap (λ (k : ℕ). take k s) e ∙ take_all (length s) s (omega arith)

  many : length (unpacked BigEndian s) ≡ n
  many = ap (λ (l : List ℕ). length (unpacked BigEndian l)) (sym all) ∙ length-unpacked BigEndian n s (omega arith)

  module _ (numbers : List ℤ) (few : length s ≤ 3 * length numbers) where
    unpacks : unpack_into BigEndian s numbers ≡ splice numbers 0 (unpacked BigEndian s)
    unpacks = rw (eq-eqb (length s % 3) 0 whole, le-ltb (length numbers) n (omega arith))

    -- the first of the numbers, packed
    packs : take (length s) (packed LittleEndian (splice numbers 0 (unpacked BigEndian s))) ≡ turned s
    packs =
        let e : length s ≡ sample_size * n = omega arith in
        let ns = splice numbers 0 (unpacked BigEndian s) in
        ap (λ (k : ℕ). take k (packed LittleEndian ns)) e
        ∙ take-packed LittleEndian n ns
        ∙ ap (λ (l : List ℤ). packed LittleEndian l) (front (unpacked BigEndian s) numbers n many)
        ∙ sym (turned-means s bytes whole)

    pub turn-put : (k at : ℕ) (out last : List ℕ) (after : List ℤ) → length s ≡ k → at + length s ≤ length out → after ≡ unpack_into BigEndian s numbers
        → last ≡ store_first k (packed LittleEndian after) at out → last ≡ splice out at (turned s)
    turn-put k at out last after is room u e =
        e
        ∙ ap (λ (m : ℕ). store_first m (packed LittleEndian after) at out) (sym is)
        ∙ rw (le-leb (at + min (length s) (length (packed LittleEndian after))) (length out) (omega arith))
        (ap (λ (l : List ℕ). splice out at l) (ap (λ (ns : List ℤ). take (length s) (packed LittleEndian ns)) (u ∙ unpacks) ∙ packs))

-- and the next one after those that were put
pub next-turn : (s : List ℕ) (p n at : ℕ) (start out last : List ℕ) → p + n ≤ length s → p % 3 ≡ 0 → n % 3 ≡ 0 → at + length s ≤ length start
    → out ≡ splice start at (turned (take p s)) → last ≡ splice out (at + p) (turned (take n (drop p s))) → last ≡ splice start at (turned (take (p + n) s))
next-turn s p n at start out last within h k room before put =
    let a = take p s in
    let b = take n (drop p s) in
    let la : length (turned a) ≡ p = length-turned a ∙ length-take-le p s (omega arith) in
    let lb : length (turned b) ≤ n = simp (length-turned, length-take) (omega arith) in
    more start at p (turned a) (turned b) before put la (omega (arith, lb))
    ∙ ap (λ (l : List ℕ). splice start at l) (sym (turned-append a b (rw (length-take-le p s (omega arith)) h)) ∙ ap turned (sym (take-add p n s)))

-- a block that is cut off the front of what is left
pub block_of : (s b rest : List ℕ) (p : ℕ) → drop p s ≡ b ++ rest → (b ≡ take (length b) (drop p s)) × (rest ≡ drop (p + length b) s)
block_of s b rest p cut = (rw cut (sym (take-append_seam b rest)), rw (← drop-drop, cut) (sym (drop-append_seam b rest)))
