-- Numbers that fit 32 bits.
use mathlib.Core.Path.{◌≡◌, refl, ◌∙◌, ap}
use mathlib.Core.Bool.{Bool, true, false, ◌&&◌}
use mathlib.Core.List.{List, [], ◌∷◌, ◌++◌}
use Prim.Native.Nat.{ℕ, zero, suc, ◌+◌, ◌<◌, ◌≤◌, ◌^◌}
use native.Mathlib.Omega.{arith}
use native.Mathlib.Nat.{mod-eq_of_lt}
use lib.Dec.{ltb}
use lib.ListN.{length, get_or, take, drop, length-take, length-drop}
use lib.Seq.{get_or-take, get_or-drop}
use lib.Bits.{bit_or, or_lt, or_comm, or_add_and, and_le_r}
use borrow.Author.Tests.{ltb-true, ltb-false, lt-ltb, le-ltb}
use Rattle.reading.proofs.Choice.{both}
use Rattle.numbers.specs.FormatNumbers.{audio_of, audio_low}
use Rattle.numbers.specs.Words.{at, low, is_word, all_words}

words-at : (xs : List ℕ) → all_words xs ≡ true → (k : ℕ) → k < length xs → get_or xs k 0 < 2 ^ 32
words-at [] e k h = absurd (let z : ⊥ = omega arith in z)
words-at (x ∷ xs) e zero h = ltb-true x (2 ^ 32) (both _ (all_words xs) e).0
words-at (x ∷ xs) e (suc k) h = words-at xs (both (is_word x) _ e).1 k (omega arith)

-- a part of an array whose numbers are all words
pub part_at : (s : List ℕ) (p n : ℕ) → p + n ≤ length s → all_words (take n (drop p s)) ≡ true → (k : ℕ) → k < n → get_or s (p + k) 0 < 2 ^ 32
part_at s p n within e k h =
    let long : length (take n (drop p s)) ≡ n = simp (length-take, length-drop) (omega arith) in
    let there : get_or (take n (drop p s)) k 0 ≡ get_or s (p + k) 0 = rw (get_or-take, get_or-drop) in
    rw there at (words-at (take n (drop p s)) e k (rw long h))

-- the low bits of a word are the word
pub low_word : (ns : List ℕ) (i : ℕ) → at ns i < 2 ^ 32 → low ns i ≡ at ns i
low_word ns i h = mod-eq_of_lt h

pub audio-words : (ns : List ℕ) → 8 ≤ length ns → all_words (take 6 (drop 2 ns)) ≡ true → audio_low ns ≡ audio_of ns
audio-words ns l e =
    let w : (k : ℕ) → k < 6 → get_or ns (2 + k) 0 < 2 ^ 32 = part_at ns 2 6 l e in
    rw (low_word ns 2 (w 0 (omega arith)), low_word ns 3 (w 1 (omega arith)), low_word ns 4 (w 2 (omega arith)), low_word ns 5 (w 3 (omega arith)), low_word ns 6 (w 4 (omega arith)), low_word ns 7 (w 5 (omega arith)))

le-or : (a b : ℕ) → a ≤ bit_or a b
le-or a b = omega (arith, or_add_and a b, and_le_r a b)

-- `|` of two is a word exactly where both are
pub word-or : (x y : ℕ) → is_word (bit_or x y) ≡ is_word x && is_word y
word-or x y = go (ltb x (2 ^ 32)) (ltb y (2 ^ 32)) refl refl
  where
    go : (a b : Bool) → ltb x (2 ^ 32) ≡ a → ltb y (2 ^ 32) ≡ b → is_word (bit_or x y) ≡ a && b
    go true true s t = lt-ltb (bit_or x y) (2 ^ 32) (or_lt 32 x y (ltb-true x (2 ^ 32) s) (ltb-true y (2 ^ 32) t))
    go true false s t = le-ltb (bit_or x y) (2 ^ 32) (omega (arith, ltb-false y (2 ^ 32) t, le-or y x, or_comm x y))
    go false b s t = le-ltb (bit_or x y) (2 ^ 32) (omega (arith, ltb-false x (2 ^ 32) s, le-or x y))

and-true : (b : Bool) → b && true ≡ true && b
and-true true = refl
and-true false = refl

pub words_more : (xs : List ℕ) (x : ℕ) → all_words (xs ++ (x ∷ [])) ≡ all_words xs && is_word x
words_more [] x = and-true (is_word x)
words_more (y ∷ ys) x = ap (λ (b : Bool). is_word y && b) (words_more ys x) ∙ and_assoc (is_word y) (all_words ys) (is_word x)
  where
    and_assoc : (a b c : Bool) → a && (b && c) ≡ (a && b) && c
    and_assoc true b c = refl
    and_assoc false b c = refl
