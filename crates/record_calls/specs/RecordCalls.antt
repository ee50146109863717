-- Calls on the record that C keeps as an array.
use Rattle.std.specs.Prelude.{◌≡◌, ℕ, cond, List, [], ◌∷◌, length, eqb, ltb}
use Rattle.answers.specs.Numbers.{done, bad_writer}
use Rattle.byte_order.specs.Splice.{splice}
use Rattle.writer.specs.Record.{fresh}
use Rattle.writer.specs.Finish.{final_size}
use Rattle.writer.specs.Outcome.{Outcome, unchanged, answer, buffer_after, buffer_cut, counted}
use Rattle.writer.specs.declared.CAFWriter.{CAFWriter}
use Rattle.writer.specs.Shapes.{Wrote}
use Rattle.writer.specs.Shapes.{Counted}
use Rattle.numbers.specs.Lent.{number_given, lent_after}
use Rattle.record_numbers.specs.RecordNumbers.{is_record, record_of, record_numbers, record_put}

-- the call on the record that the array stands for. An array that stands for none is unsound (BadWriter)
unfoldable pub call_on : List ℕ → (CAFWriter → Outcome) → Outcome
call_on ns call = cond (is_record ns) (call (record_of ns)) (unchanged bad_writer fresh)

-- and its number alone
abbrev pub number_on : List ℕ → (CAFWriter → ℕ) → ℕ
number_on ns number = cond (is_record ns) (number (record_of ns)) bad_writer

-- the array after an answer: the next record, or every number as it was where the call is refused
unfoldable pub record_after : List ℕ → Wrote → List ℕ
record_after ns wrote = cond (eqb wrote.number done) (record_numbers wrote.writer) ns

-- of any array: only one of a record's places takes the record
abbrev pub kept_after : List ℕ → Wrote → List ℕ
kept_after ns wrote = cond (eqb wrote.number done) (record_put ns wrote.writer) ns

-- what a call on the array `held` and the buffer `buf` promises, where it comes to o: the number it gives back, the array and the
-- buffer afterwards
pub record Called (held buf : List ℕ) (o : Outcome) (r : ℕ) (held_after bufAfter : List ℕ) : Type 0 where
  pub number : r ≡ o.number
  pub kept : held_after ≡ record_after held (answer o)
  pub stored : bufAfter ≡ buffer_after o buf

-- of a setting, which is lent no buffer
pub record Set (held : List ℕ) (o : Outcome) (r : ℕ) (held_after : List ℕ) : Type 0 where
  pub number : r ≡ o.number
  pub kept : held_after ≡ record_after held (answer o)

-- a finish that is not refused stores the size of the data, unless it stands there already
abbrev pub size_stored : CAFWriter → List ℕ → List ℕ
size_stored w buf = cond w.finished buf (splice buf w.size_position (final_size w))

-- 01, Stores and the cut: what a counted form gives beside its number
abbrev pub counted_places : ℕ
counted_places = 2

abbrev pub counted_numbers : Counted → List ℕ
counted_numbers done = done.stores ∷ done.file_len ∷ []

-- an array that stands for no record has no length
abbrev pub no_count : Counted
no_count = record { number = bad_writer; stores = 0; file_len = 0 }

unfoldable pub counted_on : ℕ → List ℕ → (CAFWriter → Outcome) → Counted
counted_on n ns call = cond (is_record ns) (counted n (call (record_of ns)) (record_of ns)) no_count

-- what the counted form promises: the number, the buffer and the array `out` afterwards. With too few places in `out` no store is done
pub record CountedCall (n : ℕ) (held buf out : List ℕ) (call : CAFWriter → Outcome) (r : ℕ) (bufAfter outAfter : List ℕ) : Type 0 where
  pub number : r ≡ number_given counted_places out (counted_on n held call).number
  pub stored : bufAfter ≡ cond (ltb (length out) counted_places) buf (buffer_cut n (call_on held call) buf)
  pub told : outAfter ≡ lent_after counted_places out (counted_numbers (counted_on n held call))
