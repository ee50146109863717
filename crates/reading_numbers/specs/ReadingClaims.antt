-- What is to be proved of the strict reading's numbers: its answer comes back from them. The proof stands in proofs/StrictBack.
use Rattle.std.specs.Prelude.{ℕ, ◌≤◌, ◌≡◌, List, length}
use Rattle.reading.specs.Answers.{strict_number}
use Rattle.reading.specs.Claims.{Bytes}
use Rattle.reading.specs.Strict.{strict}
use Rattle.numbers.specs.Lent.{number_given, lent_after}
use Rattle.reading_numbers.specs.ReadingNumbers.{strict_places, strict_numbers, strict_of}

-- whatever stood in a lent array that has the places: the number that the call gives and the array that it leaves stand for the answer
abbrev pub StrictBack : Type 0
StrictBack =
    (s out : List ℕ) → Bytes s → strict_places ≤ length out
    → strict_of (number_given strict_places out (strict_number (strict s))) (lent_after strict_places out (strict_numbers (strict s))) ≡ strict s
