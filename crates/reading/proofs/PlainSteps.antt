-- The plain reading stops at the data: no step of it passes them, and none comes after them.
use mathlib.Core.Path.{◌≡◌}
use mathlib.Core.List.{List}
use Prim.Native.Nat.{ℕ}
use lib.Dec.{ltb, leb}
use Rattle.format.specs.Desc.{desc_size}
use Rattle.reading.specs.Types.{'desc', 'data', type_size, chunk_header_size, edit_size, negative}
use Rattle.reading.specs.Step.{left, stands_at, size_at, body_at, bad_rate_at, desc_at, skip_at}
use Rattle.reading.specs.Rules.{Plain, plain_data, step_by}
use Rattle.reading.specs.Shapes.{Step, Format, Skip, Closed, Data, End, Refused}
use Rattle.reading.proofs.Choice.{either}

abbrev pub PlainStep : Step → Type 0
PlainStep (Format f q) = Unit {0}
PlainStep (Skip q) = Unit {0}
PlainStep (Closed size start q) = ⊥
PlainStep (Data size start) = Unit {0}
PlainStep (End size start) = ⊥
PlainStep (Refused number met) = Unit {0}

plain-steps : (s : List ℕ) (p : ℕ) → PlainStep (step_by Plain s p)
unfolding step_by desc_at plain_data skip_at
plain-steps s p =
    let P = PlainStep in
    either P (ltb (left s p) chunk_header_size) (λ _. either P (ltb (left s p) type_size) (λ _. tt) (λ _. tt))
    (λ _. either P (stands_at s p 'desc') (λ _. either P (ltb (left s (body_at p)) desc_size) (λ _. tt) (λ _. either P (bad_rate_at s (body_at p)) (λ _. tt) (λ _. tt)))
    (λ _. either P (stands_at s p 'data') (λ _. either P (ltb (left s (body_at p)) edit_size) (λ _. tt) (λ _. tt))
    (λ _. either P (leb negative (size_at s p)) (λ _. tt) (λ _. either P (ltb (left s (body_at p)) (size_at s p)) (λ _. tt) (λ _. tt)))))

pub as_plain : (s : List ℕ) (p : ℕ) {st : Step} → st ≡ step_by Plain s p → PlainStep st
as_plain s p e = rw e (plain-steps s p)
