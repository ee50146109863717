-- The labels that count, where they stand in the array.
use Rattle.std.proofs.Common.{◌≡◌, ℕ, zero, suc, ◌+◌, ◌-◌, ◌%◌, ◌≤◌, ◌^◌, Bool, true, ◌&&◌, List, [], ◌∷◌, take, drop, refl, ◌∙◌, ap, arith}
use Rattle.std.specs.List.{list_all}
use Rattle.std.proofs.lemmas.List.{take-take}
use Rattle.std.proofs.Math.Nat.{mod-eq_of_lt}
use borrow.Author.Tests.{ltb-true}
use Rattle.layout.specs.Known.{known_label, are_known}
use Rattle.reading.proofs.Choice.{both}
use Rattle.numbers.specs.Words.{is_word, all_words}
use Rattle.record_numbers.specs.RecordNumbers.{labels_in}

-- of words the low 32 bits are the word
known-words : (xs : List ℕ) → all_words xs ≡ true → list_all (λ n. known_label (n % 2 ^ 32)) xs ≡ are_known xs
known-words [] e = refl
known-words (x ∷ xs) e =
    let w = both (is_word x) (all_words xs) e in
    let low : x % 2 ^ 32 ≡ x = mod-eq_of_lt (ltb-true x (2 ^ 32) w.0) in
    ap (λ (n : ℕ). known_label n && list_all (λ m. known_label (m % 2 ^ 32)) xs) low ∙ ap (λ (b : Bool). known_label x && b) (known-words xs w.1)

words-taken : (n : ℕ) (xs : List ℕ) → all_words xs ≡ true → all_words (take n xs) ≡ true
words-taken zero xs e = refl
words-taken (suc n) [] e = refl
words-taken (suc n) (x ∷ xs) e = let w = both (is_word x) (all_words xs) e in rw w.0 (words-taken n xs w.1)

pub labels-known : (ns : List ℕ) (count : ℕ) → count ≤ 64 → all_words (labels_in ns) ≡ true
    → list_all (λ n. known_label (n % 2 ^ 32)) (take (12 + count - 12) (drop 12 ns)) ≡ are_known (take count (labels_in ns))
labels-known ns count h e =
    let n : 12 + count - 12 ≡ count = omega arith in
    let front : take count (labels_in ns) ≡ take count (drop 12 ns) = take-take count 64 (drop 12 ns) h in
    rw (n, ← front) (known-words (take count (labels_in ns)) (words-taken count (labels_in ns) e))
