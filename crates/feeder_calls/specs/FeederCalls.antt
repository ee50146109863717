-- Document 02, T-01: the reading in blocks on the record that C keeps as an array.
use Rattle.std.specs.Prelude.{◌≡◌, ℕ, cond, List, length, eqb}
use Rattle.std.specs.Option.{option_map_or}
use Rattle.answers.specs.Numbers.{done, bad_writer}
use Rattle.reading.specs.Shapes.{StrictAnswer, Rejected}
use Rattle.feeder.specs.Record.{fresh}
use Rattle.feeder.specs.End.{end}
use Rattle.feeder.specs.declared.Feeder.{Feeder}
use Rattle.feeding.specs.Feed.{feed}
use Rattle.feeding.specs.Pass.{passable, pass}
use Rattle.feeding.specs.Feed.{Fed}
use Rattle.feeder_numbers.specs.FeederNumbers.{feeder_places, feeder_numbers, feeder_of}

-- only an array of a record's places takes a fresh one
abbrev pub begin_number : List ℕ → ℕ
begin_number held = cond (eqb (length held) feeder_places) done bad_writer

abbrev pub begin_record : List ℕ → List ℕ
begin_record held = cond (eqb (length held) feeder_places) (feeder_numbers fresh) held

-- a call on the record that the array stands for. An array that stands for none is unsound (BadWriter)
unfoldable pub call_on : List ℕ → (Feeder → Fed) → Fed
call_on ns call = option_map_or call (feeder_of ns) (record { number = bad_writer; feeder = fresh })

-- a block is fed
abbrev pub feed_on : List ℕ → List ℕ → Fed
feed_on ns block = call_on ns (λ r. feed r block)

-- n bytes are passed over, or as many of them as may be
abbrev pub pass_on : List ℕ → ℕ → Fed
pass_on ns n = call_on ns (λ r. pass r n)

-- how many may be
unfoldable pub passable_on : List ℕ → ℕ
passable_on ns = option_map_or passable (feeder_of ns) 0

-- the array after a call: the next record, or every number as it was where the record is unsound. A refusal that the bytes gave is
-- part of the next record
unfoldable pub feeder_after : List ℕ → Fed → List ℕ
feeder_after ns fed = cond (eqb fed.number bad_writer) ns (feeder_numbers fed.feeder)

-- what a call promises that comes to `fed`: its number, and the array afterwards
pub record FeederCall (held : List ℕ) (fed : Fed) (r : ℕ) (held_after : List ℕ) : Type 0 where
  pub number : r ≡ fed.number
  pub kept : held_after ≡ feeder_after held fed

-- the answer of the end call
unfoldable pub end_on : List ℕ → StrictAnswer
end_on ns = option_map_or end (feeder_of ns) (Rejected bad_writer 0)
