-- The feeding record and the array that stands for it.
use mathlib.Core.Path.{◌≡◌, refl, ap}
use mathlib.Core.Bool.{true}
use mathlib.Core.List.{List, [], ◌∷◌, ◌++◌}
use Prim.Native.Nat.{ℕ}
use native.Mathlib.Omega.{arith}
use lib.ListN.{length, get_or, take, drop}
use Rattle.byte_order.specs.Big.{big_at}
use Rattle.feeder.specs.declared.Phase.{Phase}
use Rattle.feeder.specs.declared.Phase.TheVariants.{FileHeader, FirstHeader, Desc, Header, Skipping, Edit, OpenData, ClosedData, Refused}
use Rattle.feeder.specs.declared.Feeder.{Feeder}
use Rattle.numbers.specs.Words.{all_words}
use Rattle.numbers.specs.FormatNumbers.{audio_of, audio_low}
use Rattle.feeder_numbers.specs.FeederNumbers.{feeder_places, phase_kind, phase_format, phase_number, phase_size, phase_start, feeder_numbers}
use Rattle.numbers.proofs.WordLaws.{audio-words}

-- the low bits of what an array holds in 32 bits are what stands there
pub feeder_audio : (ns : List ℕ) → length ns ≡ feeder_places → all_words (take 6 (drop 2 ns)) ≡ true → audio_low ns ≡ audio_of ns
feeder_audio ns l w = audio-words ns (omega arith) w

-- seven numbers read one by one, and more after them
format-then : (phase : Phase) (middle rest : List ℕ)
    → get_or (phase_format phase) 0 0 ∷ get_or (phase_format phase) 1 0 ∷ get_or (phase_format phase) 2 0 ∷ get_or (phase_format phase) 3 0
    ∷ get_or (phase_format phase) 4 0 ∷ get_or (phase_format phase) 5 0 ∷ get_or (phase_format phase) 6 0
    ∷ (middle ++ rest)
    ≡ phase_format phase ++ middle ++ rest
format-then FileHeader middle rest = refl
format-then FirstHeader middle rest = refl
format-then Desc middle rest = refl
format-then (Header f d) middle rest = refl
format-then (Skipping f d left) middle rest = refl
format-then (Edit f size) middle rest = refl
format-then (OpenData f start) middle rest = refl
format-then (ClosedData f chunk left) middle rest = refl
format-then (Refused number) middle rest = refl

-- so the record's numbers are those of its parts
pub feeder-is : (r : Feeder) (k n z s a b c d : ℕ) (f : List ℕ) → k ≡ phase_kind r.phase → f ≡ phase_format r.phase → n ≡ phase_number r.phase
    → z ≡ phase_size r.phase → s ≡ phase_start r.phase → a ≡ big_at 8 r.held 0 → b ≡ big_at 8 r.held 8 → c ≡ big_at 8 r.held 16
    → d ≡ big_at 8 r.held 24
    → (k ∷ get_or f 0 0 ∷ get_or f 1 0 ∷ get_or f 2 0 ∷ get_or f 3 0 ∷ get_or f 4 0 ∷ get_or f 5 0 ∷ get_or f 6 0 ∷ n ∷ z ∷ s
    ∷ r.count ∷ r.total ∷ r.chunks ∷ a ∷ b ∷ c ∷ d ∷ []) ≡ feeder_numbers r
unfolding feeder_numbers
feeder-is r k n z s a b c d f ek ef en ez es ea eb ec ed =
    rw (ek, ef, en, ez, es, ea, eb, ec, ed)
    (ap (λ (xs : List ℕ). phase_kind r.phase ∷ xs)
    (format-then r.phase (phase_number r.phase ∷ phase_size r.phase ∷ phase_start r.phase ∷ r.count ∷ r.total ∷ r.chunks ∷ [])
    (big_at 8 r.held 0 ∷ big_at 8 r.held 8 ∷ big_at 8 r.held 16 ∷ big_at 8 r.held 24 ∷ [])))
