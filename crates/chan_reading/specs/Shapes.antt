-- The papers' answers of the reader: a refusal is told by its number. The definitions and the theorems speak of these; the code answers with a
-- `Result`, and its promises say by `chan_of`, `read_of` and `sought_of` which paper's answer that stands for.
use Rattle.std.specs.Prelude.{ℕ, Option, Some, None, Result, Ok, Err}
use Rattle.std.proofs.Math.Option.{none}
use Rattle.answers.specs.Refused.{refusal_number}
use Rattle.answers.specs.declared.refusal.Refusal.{Refusal}
use Rattle.layout.specs.Order.{order_places}
use Rattle.layout.specs.declared.NamedOrder.{NamedOrder}
use Rattle.chan_reading.specs.declared.ChanHead.{ChanHead}
use Rattle.chan_reading.specs.declared.ChanRead as code

-- the answer for a `chan`, without its descriptions
pub data ChanAnswer : Type 0 where
  Given : ChanHead → ChanAnswer
  Refused : ℕ → ChanAnswer

abbrev pub chan_of : Result ChanHead Refusal → ChanAnswer
chan_of (Ok h) = Given h
chan_of (Err r) = Refused (refusal_number r)

-- the whole answer: beside it the order that the tag stands for, none where it names no row of the table or the body is refused
pub record ChanRead : Type 0 where
  pub answer : ChanAnswer
  pub order : NamedOrder

abbrev pub read_of : Result code.ChanRead Refusal → ChanRead
read_of (Ok r) = record { answer = Given r.head; order = r.order }
read_of (Err r) = record { answer = Refused (refusal_number r); order = order_places none }

-- what a file says of its layout: nothing, or the answer for its first `chan`
pub data Sought : Type 0 where
  Nothing : Sought
  Chan : ChanAnswer → Sought

abbrev pub sought_of : Option (Result ChanHead Refusal) → Sought
sought_of None = Nothing
sought_of (Some a) = Chan (chan_of a)
