-- 02, T-03, for C: a `chan` read, and the place of the first one, as numbers that go to lent arrays.
use Rattle.std.specs.Prelude.{ℕ, ◌≡◌, cond, List, [], ◌∷◌, length, ltb, Option, Some, None}
use Rattle.answers.specs.Numbers.{done}
use Rattle.byte_order.specs.Splice.{splice}
use Rattle.layout.specs.declared.NamedOrder.{NamedOrder}
use Rattle.chan_reading.specs.Read.{chan_read, chan_numbers}
use Rattle.chan_reading.specs.Shapes.{ChanAnswer, Given, Refused}
use Rattle.reading.specs.declared.Body.{Body}
use Rattle.numbers.specs.Lent.{number_given, lent_after}

-- the reader's answer: its number, and its other numbers, none for a refusal. The order is its count and as many places as a row has
abbrev pub read_number : ChanAnswer → ℕ
read_number (Given h) = done
read_number (Refused number) = number

abbrev pub read_numbers : ChanAnswer → NamedOrder → List ℕ
read_numbers (Given h) order = h.tag ∷ h.bitmap ∷ h.count ∷ order.count ∷ order.labels
read_numbers (Refused number) order = []

abbrev pub read_places : ℕ
read_places = 12

-- what the call promises. With too few places for the answer nothing is written, to either array
pub record ReadCall (body : List ℕ) (channels : ℕ) (out answer : List ℕ) (r : ℕ) (outAfter answerAfter : List ℕ) : Type 0 where
  pub number : r ≡ number_given read_places answer (read_number (chan_read body channels (length out)).answer)
  pub described : outAfter ≡ cond (ltb (length answer) read_places) out (splice out 0 (chan_numbers body channels (length out)))
  pub told : answerAfter ≡ lent_after read_places answer (read_numbers (chan_read body channels (length out)).answer (chan_read body channels (length out)).order)

-- a place: 1 with start and size, or three zeros
abbrev pub place_numbers : Option Body → List ℕ
place_numbers (Some b) = 1 ∷ b.start ∷ b.size ∷ []
place_numbers None = 0 ∷ 0 ∷ 0 ∷ []

abbrev pub place_places : ℕ
place_places = 3
