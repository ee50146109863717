-- Packed samples: how many bytes they are, the first of them, and one sample more.
use mathlib.Core.Path.{◌≡◌, refl, ap, sym, ◌∙◌}
use mathlib.Core.List.{List, [], ◌∷◌, ◌++◌, append_assoc}
use Prim.Native.Nat.{ℕ, zero, suc, ◌+◌, ◌*◌, ◌<◌, ◌≤◌}
use native.Mathlib.Omega.{arith}
use lib.IntN.{ℤ, pos}
use Rattle.byte_order.specs.Splice.{splice}
use Rattle.byte_order.proofs.Laws.{more}
use lib.ListN.{length, take, drop, get_or, length-append, length-drop}
use lib.Seq.{length-take-le, take-append-le, take_all, take-add, take-append-add, drop-cons, drop-append-add}
use Rattle.format.specs.declared.Endianness.{Endianness}
use Rattle.format.specs.declared.Endianness.TheVariants.{BigEndian, LittleEndian}
use Rattle.pcm.specs.Sample.{low24, bytes24}
use Rattle.pcm.specs.Packing.{sample_size, packed}

pub length-bytes24 : (e : Endianness) (u : ℕ) → length (bytes24 e u) ≡ sample_size
length-bytes24 BigEndian u = refl
length-bytes24 LittleEndian u = refl

-- three bytes for each sample
pub length-packed : (e : Endianness) (xs : List ℤ) → length (packed e xs) ≡ sample_size * length xs
length-packed e [] = refl
length-packed e (x ∷ xs) =
    let k = length-bytes24 e (low24 x) in
    let l = length-packed e xs in
    simp length-append (omega arith)

-- the bytes after those of the first k samples are those of the samples after them
drop-packed : (e : Endianness) (k : ℕ) (xs : List ℤ) → drop (sample_size * k) (packed e xs) ≡ packed e (drop k xs)
drop-packed e zero xs = refl
drop-packed e (suc k) [] = let h : sample_size * suc k ≡ suc (suc (suc (sample_size * k))) = omega arith in rw h
drop-packed e (suc k) (x ∷ xs) =
    let h : sample_size * suc k ≡ length (bytes24 e (low24 x)) + sample_size * k = omega (arith, length-bytes24 e (low24 x)) in
    rw (h, drop-append-add) (drop-packed e k xs)

-- the first bytes are those of the first samples
pub take-packed : (e : Endianness) (k : ℕ) (xs : List ℤ) → take (sample_size * k) (packed e xs) ≡ packed e (take k xs)
take-packed e zero xs = refl
take-packed e (suc k) [] = let h : sample_size * suc k ≡ suc (suc (suc (sample_size * k))) = omega arith in rw h
take-packed e (suc k) (x ∷ xs) =
    let h : sample_size * suc k ≡ length (bytes24 e (low24 x)) + sample_size * k = omega (arith, length-bytes24 e (low24 x)) in
    rw (h, take-append-add) (ap (λ (r : List ℕ). bytes24 e (low24 x) ++ r) (take-packed e k xs))

-- the bytes of k samples and the first r of the next
pub take_part : (e : Endianness) (xs : List ℤ) (k r : ℕ) → k < length xs → r ≤ sample_size →
    take (sample_size * k + r) (packed e xs) ≡ packed e (take k xs) ++ take r (bytes24 e (low24 (get_or xs k (pos 0))))
take_part e xs k r h l =
    let b = bytes24 e (low24 (get_or xs k (pos 0))) in
    let d : drop (sample_size * k) (packed e xs) ≡ b ++ packed e (drop (suc k) xs) = drop-packed e k xs ∙ ap (λ (ys : List ℤ). packed e ys) (drop-cons xs k (pos 0) h) in
    let t : take r (b ++ packed e (drop (suc k) xs)) ≡ take r b = take-append-le r b (packed e (drop (suc k) xs)) (omega (arith, length-bytes24 e (low24 (get_or xs k (pos 0))))) in
    rw (take-add, take-packed e k xs, d, t)

packed-append : (e : Endianness) (xs ys : List ℤ) → packed e (xs ++ ys) ≡ packed e xs ++ packed e ys
packed-append e [] ys = refl
packed-append e (x ∷ xs) ys = rw (packed-append e xs ys) (sym (append_assoc (bytes24 e (low24 x)) (packed e xs) (packed e ys)))

-- samples are put, and then others after them
pub then-put : (e : Endianness) (xs ys zs : List ℤ) (at n : ℕ) (start : List ℕ) {buf last : List ℕ} → length xs ≡ n → at + sample_size * (n + length ys) ≤ length start → zs ≡ xs ++ ys
    → buf ≡ splice start at (packed e xs) → last ≡ splice buf (at + sample_size * n) (packed e ys) → last ≡ splice start at (packed e zs)
then-put e xs ys zs at n start l room both stands put =
    let c : length (packed e xs) ≡ sample_size * n = length-packed e xs ∙ ap (λ (m : ℕ). sample_size * m) l in
    more start at (sample_size * n) (packed e xs) (packed e ys) stands put c (omega (arith, length-packed e ys)) ∙ rw (both, packed-append)

-- the first n samples are put, and then m more of them
pub more-put : (e : Endianness) (xs : List ℤ) (n m at : ℕ) (start : List ℕ) {buf last : List ℕ} → n + m ≤ length xs → at + sample_size * (n + m) ≤ length start
    → buf ≡ splice start at (packed e (take n xs)) → last ≡ splice buf (at + sample_size * n) (packed e (take m (drop n xs))) → last ≡ splice start at (packed e (take (n + m) xs))
more-put e xs n m at start h room stands put =
    let l : length (take m (drop n xs)) ≡ m = length-take-le m (drop n xs) (simp length-drop (omega arith)) in
    then-put e (take n xs) (take m (drop n xs)) (take (n + m) xs) at n start (length-take-le n xs (omega arith)) (rw l room) (take-add n m xs) stands put

-- the first k samples are put, and then r bytes of the next
pub part-put : (e : Endianness) (xs : List ℤ) (k r at : ℕ) (start : List ℕ) {buf last : List ℕ} → k < length xs → r ≤ sample_size → at + (sample_size * k + r) ≤ length start
    → buf ≡ splice start at (packed e (take k xs)) → last ≡ splice buf (at + sample_size * k) (take r (bytes24 e (low24 (get_or xs k (pos 0)))))
    → last ≡ splice start at (take (sample_size * k + r) (packed e xs))
part-put e xs k r at start h part room stands put =
    let b = bytes24 e (low24 (get_or xs k (pos 0))) in
    let c : length (packed e (take k xs)) ≡ sample_size * k = length-packed e (take k xs) ∙ ap (λ (n : ℕ). sample_size * n) (length-take-le k xs (omega arith)) in
    let d : length (take r b) ≡ r = length-take-le r b (omega (arith, length-bytes24 e (low24 (get_or xs k (pos 0))))) in
    rw (take_part e xs k r h part) (more start at (sample_size * k) (packed e (take k xs)) (take r b) stands put c (omega arith))

-- the first i samples are put, and then one more
pub one-put : (e : Endianness) (xs : List ℤ) (i at : ℕ) (start : List ℕ) {bytes buf last : List ℕ} → i < length xs → at + sample_size * length xs ≤ length start
    → buf ≡ splice start at (packed e (take i xs)) → bytes ≡ bytes24 e (low24 (get_or xs i (pos 0))) → last ≡ splice buf (at + sample_size * i) bytes
    → last ≡ splice start at (packed e (take (i + 1) xs))
one-put e xs i at start {bytes} {buf} h room stands those put =
    let b = bytes24 e (low24 (get_or xs i (pos 0))) in
    let whole : bytes ≡ take sample_size b = those ∙ sym (take_all sample_size b (omega (arith, length-bytes24 e (low24 (get_or xs i (pos 0)))))) in
    let next : sample_size * i + sample_size ≡ sample_size * (i + 1) = omega arith in
    part-put e xs i sample_size at start h (omega arith) (omega arith) stands (put ∙ ap (splice buf (at + sample_size * i)) whole) ∙ rw (next, take-packed)
