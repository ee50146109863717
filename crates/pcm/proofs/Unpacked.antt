-- Unpacked samples: how many they are, one more of them, and its store.
use mathlib.Core.Path.{◌≡◌, refl, ap, sym, ◌∙◌}
use mathlib.Core.List.{List, [], ◌∷◌, ◌++◌, append-nil}
use Prim.Native.Nat.{ℕ, zero, suc, ◌+◌, ◌*◌, ◌<◌, ◌≤◌}
use native.Mathlib.Nat.{add-zero}
use native.Mathlib.Omega.{arith}
use lib.IntN.{ℤ, pos}
use lib.ListN.{length, take, drop, get_or, set}
use Rattle.std.proofs.lemmas.List.{drop_all}
use lib.Seq.{length-take-le, drop-cons, set_at, append_snoc, get_or-take, get_or-drop}
use Rattle.format.specs.declared.Endianness.{Endianness}
use Rattle.pcm.specs.Sample.{signed24, number24}
use Rattle.pcm.specs.Packing.{sample_size}
use Rattle.pcm.specs.Unpacking.{unpacked}

-- the sample that stands at position p
abbrev pub sample_at : Endianness → List ℕ → ℕ → ℤ
sample_at e s p = signed24 (number24 e (get_or s p 0) (get_or s (p + 1) 0) (get_or s (p + 2) 0))

next : (i : ℕ) → sample_size * suc i ≡ suc (suc (suc (sample_size * i)))
next i = omega arith

-- the samples of the first three bytes and of the others
unpacked-cons : (e : Endianness) (i a b c : ℕ) (s : List ℕ) → unpacked e (take (sample_size * suc i) (a ∷ b ∷ c ∷ s)) ≡ signed24 (number24 e a b c) ∷ unpacked e (take (sample_size * i) s)
unpacked-cons e i a b c s = rw (next i)

sample-past : (e : Endianness) (i a b c : ℕ) (s : List ℕ) → sample_at e (a ∷ b ∷ c ∷ s) (sample_size * suc i) ≡ sample_at e s (sample_size * i)
sample-past e i a b c s =
    let p : sample_size * suc i + 1 ≡ suc (suc (suc (sample_size * i + 1))) = omega arith in
    let q : sample_size * suc i + 2 ≡ suc (suc (suc (sample_size * i + 2))) = omega arith in
    rw (p, q, next i)

-- one for each three bytes
pub length-unpacked : (e : Endianness) (i : ℕ) (s : List ℕ) → sample_size * i ≤ length s → length (unpacked e (take (sample_size * i) s)) ≡ i
length-unpacked e zero s h = refl
length-unpacked e (suc i) [] h = absurd (let z : ⊥ = omega arith in z)
length-unpacked e (suc i) (a ∷ []) h = absurd (let z : ⊥ = omega arith in z)
length-unpacked e (suc i) (a ∷ b ∷ []) h = absurd (let z : ⊥ = omega arith in z)
length-unpacked e (suc i) (a ∷ b ∷ c ∷ s) h = ap length (unpacked-cons e i a b c s) ∙ ap suc (length-unpacked e i s (omega arith))

pub unpacked-suc : (e : Endianness) (i : ℕ) (s : List ℕ) → sample_size * suc i ≤ length s →
    unpacked e (take (sample_size * suc i) s) ≡ unpacked e (take (sample_size * i) s) ++ (sample_at e s (sample_size * i) ∷ [])
unpacked-suc e i [] h = absurd (let z : ⊥ = omega arith in z)
unpacked-suc e i (a ∷ []) h = absurd (let z : ⊥ = omega arith in z)
unpacked-suc e i (a ∷ b ∷ []) h = absurd (let z : ⊥ = omega arith in z)
unpacked-suc e zero (a ∷ b ∷ c ∷ s) h = refl
unpacked-suc e (suc i) (a ∷ b ∷ c ∷ s) h =
    let x = signed24 (number24 e a b c) in
    unpacked-cons e (suc i) a b c s ∙ ap (λ (ys : List ℤ). x ∷ ys) (unpacked-suc e i s (omega arith))
    ∙ rw (unpacked-cons e i a b c s, sample-past e i a b c s)

-- a sample read from four bytes that were taken out
pub sample-within : (e : Endianness) (s : List ℕ) (p : ℕ) → signed24 (number24 e (get_or (take 4 (drop p s)) 0 0) (get_or (take 4 (drop p s)) 1 0) (get_or (take 4 (drop p s)) 2 0)) ≡ sample_at e s p
sample-within e s p =
    let g : (i : ℕ) → i < 4 → get_or (take 4 (drop p s)) i 0 ≡ get_or s (p + i) 0 = λ i h. get_or-take 4 (drop p s) i 0 h ∙ get_or-drop p s i 0 in
    let z : get_or (take 4 (drop p s)) 0 0 ≡ get_or s p 0 = g 0 (omega arith) ∙ ap (λ (q : ℕ). get_or s q 0) (add-zero p) in
    rw (z, g 1 (omega arith), g 2 (omega arith))

-- one sample more is stored after those that stand at the front
pub one_more : (e : Endianness) (s : List ℕ) (i : ℕ) (d : List ℤ) (x : ℤ) → x ≡ sample_at e s (sample_size * i) → sample_size * suc i ≤ length s → i < length d
    → set (unpacked e (take (sample_size * i) s) ++ drop i d) i x ≡ unpacked e (take (sample_size * suc i) s) ++ drop (suc i) d
one_more e s i d x is h k =
    let vs = unpacked e (take (sample_size * i) s) in
    rw (drop-cons d i (pos 0) k, set_at vs (get_or d i (pos 0)) (drop (suc i) d) x i (length-unpacked e i s (omega arith)), unpacked-suc e i s h, is)
    (sym (append_snoc vs (sample_at e s (sample_size * i)) (drop (suc i) d)))

-- the last one is stored after all that stand before it
pub last_one : (e : Endianness) (s : List ℕ) (d before : List ℤ) (x : ℤ) (n : ℕ) → length d ≡ n + 1 → sample_size * length d ≤ length s
    → before ≡ unpacked e (take (sample_size * length (take n d)) s) → x ≡ sample_at e s (sample_size * n) → set (before ++ drop n d) n x ≡ unpacked e (take (sample_size * length d) s)
last_one e s d before x n l h stands is =
    let those : before ≡ unpacked e (take (sample_size * n) s) = rw (← length-take-le n d (omega arith)) stands in
    let all : length d ≡ suc n = omega arith in
    rw (those, one_more e s n d x is (omega arith) (omega arith), drop_all (suc n) d (omega arith), append-nil, all)
