-- 02, T-01: what is to be proved of the reading in blocks. Each claim is a type; its proof stands in proofs/.
use Rattle.std.specs.Prelude.{ℕ, ◌+◌, ◌-◌, ◌*◌, ◌<◌, ◌≤◌, ◌≡◌, true, false, length, take}
use mathlib.Core.List.{List, [], ◌++◌, flatten}
use Rattle.answers.specs.Numbers.{bad_writer, file_max}
use Rattle.reading.specs.Answers.{strict_count}
use Rattle.reading.specs.Strict.{strict}
use Rattle.reading.specs.Shapes.{Rejected}
use Rattle.feeder.specs.Record.{held_room, fresh, is_by_bytes, sound}
use Rattle.feeder.specs.End.{end}
use Rattle.feeder.specs.declared.Feeder.{Feeder}
use Rattle.feeding.specs.Feed.{is_refused, feed_bytes, feed, feed_all}
use Rattle.feeding.specs.Pass.{passable, pass}
use Rattle.feeding.specs.Turns.{room_for}
use Rattle.fed.specs.Answer.{cut_off, fed_answer}
use Rattle.fed.specs.ByTurns.{turns, by_turns}

-- however a file of a possible length is cut, the end gives the strict answer for the blocks joined, with its count of chunks
abbrev pub FedIsStrict : Type 0
FedIsStrict = (blocks : List (List ℕ)) → length (flatten blocks) ≤ file_max → end (feed_all fresh blocks) ≡ strict (flatten blocks)

-- and of a longer one: TooLong, unless the bytes up to the limit gave a refusal
abbrev pub FedTooLong : Type 0
FedTooLong = (blocks : List (List ℕ)) → file_max < length (flatten blocks) → end (feed_all fresh blocks) ≡ cut_off (strict (take file_max (flatten blocks)))

-- both at once
abbrev pub FedIs : Type 0
FedIs = (blocks : List (List ℕ)) → end (feed_all fresh blocks) ≡ fed_answer (flatten blocks)

-- and whatever the answer is, TooLong too, its count is that of the chunk headers which the strict reading meets up to the limit
abbrev pub FedCounts : Type 0
FedCounts = (blocks : List (List ℕ)) → strict_count (end (feed_all fresh blocks)) ≡ strict_count (strict (take file_max (flatten blocks)))

-- the refusals that the bytes give are the strict reading's whatever follows
abbrev pub GivenByBytes : Type 0
GivenByBytes =
    (s more : List ℕ) (number k : ℕ) → length s ≤ file_max → strict s ≡ Rejected number k → is_by_bytes number ≡ true
    → strict (s ++ more) ≡ Rejected number k

-- and of the others none is: some bytes may follow with which the strict reading answers otherwise
abbrev pub WaitsForEnd : Type 0
WaitsForEnd =
    (s : List ℕ) (number k : ℕ) → length s ≤ file_max → strict s ≡ Rejected number k → is_by_bytes number ≡ false
    → (more : List ℕ) × (strict (s ++ more) ≡ Rejected number k → ⊥)

-- of any record, a hand-made one too
pub record Feeds : Type 0 where
  -- two blocks are one
  pub joined : (r : Feeder) (a b : List ℕ) → feed (feed r a).feeder b ≡ feed r (a ++ b)
  -- a block without bytes changes nothing
  pub nothing : (r : Feeder) → (feed r []).feeder ≡ r
  -- after a refusal a block changes nothing
  pub refused : (r : Feeder) (block : List ℕ) → is_refused r.phase ≡ true → (feed r block).feeder ≡ r
  -- a sound record stays sound, one that is not is handed back and refused
  pub kept : (r : Feeder) (block : List ℕ) → sound (feed r block).feeder ≡ sound r
  pub unsound : (r : Feeder) (block : List ℕ) → sound r ≡ false → feed r block ≡ record { number = bad_writer; feeder = r }
  pub unsound-end : (r : Feeder) → sound r ≡ false → end r ≡ Rejected bad_writer 0

-- a block in turns is a block byte after byte. Every record of the code has the room for a piece, by its type
abbrev pub ByTurns : Type 0
ByTurns = (r : Feeder) (block : List ℕ) → sound r ≡ true → length r.held ≡ held_room → by_turns r block ≡ feed_bytes r block

-- and a block costs its headers, not its length: as many turns as twice the chunk headers that end in it, and three, are enough
abbrev pub FewTurns : Type 0
FewTurns =
    (r : Feeder) (block : List ℕ) → sound r ≡ true → length r.held ≡ held_room → length block ≤ room_for r
    → turns (2 * ((feed_bytes r block).chunks - r.chunks) + 3) r block ≡ feed_bytes r block

-- bytes that are passed over need not be known: it is as if any so many were fed
abbrev pub PassedIsFed : Type 0
PassedIsFed = (r : Feeder) (block : List ℕ) → length block ≤ passable r → pass r (length block) ≡ feed r block
