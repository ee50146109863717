-- Document 02, T-01: what is to be proved of the reading in blocks as C uses it. The proofs stand in proofs/FedThrough.
use Rattle.std.specs.Prelude.{◌≡◌, ℕ, ◌≤◌, length}
use mathlib.Core.List.{List, [], ◌∷◌, flatten}
use Rattle.reading.specs.Claims.{Bytes}
use Rattle.fed.specs.Answer.{fed_answer}
use Rattle.feeder_numbers.specs.FeederNumbers.{feeder_places}
use Rattle.feeder_calls.specs.FeederCalls.{begin_record, feed_on, pass_on, passable_on, feeder_after, end_on}

-- one block after the other, on the array that the caller keeps
unfoldable pub feeds_on : List ℕ → List (List ℕ) → List ℕ
feeds_on ns [] = ns
feeds_on ns (block ∷ blocks) = feeds_on (feeder_after ns (feed_on ns block)) blocks

-- what a slice of `u8` always is, said of lists here
abbrev pub AllBytes : List (List ℕ) → Type 0
AllBytes [] = Unit {0}
AllBytes (block ∷ blocks) = Bytes block × AllBytes blocks

-- however a film is cut, the calls begin, feed for each block, and end give the strict answer for the blocks joined (TooLong where
-- they are more than a file may have)
abbrev pub FedThroughC : Type 0
FedThroughC =
    (held : List ℕ) (blocks : List (List ℕ)) → length held ≡ feeder_places → AllBytes blocks
    → end_on (feeds_on (begin_record held) blocks) ≡ fed_answer (flatten blocks)

-- bytes that may be passed over need not be read: passing over them is feeding them, whatever they are
abbrev pub PassedThroughC : Type 0
PassedThroughC = (held block : List ℕ) → length block ≤ passable_on held → pass_on held (length block) ≡ feed_on held block
