-- The papers' answers of a step and of the readings: a refusal is told by document 01's number, and beside it stands the count of whole chunk
-- headers met. The definitions and the theorems speak of these; the code answers with refusals by name and with a `Result`, and its promises
-- say by `step_of`, `plain_of` and `strict_of` which paper's answer that stands for.
use Rattle.std.specs.Prelude.{ℕ, Result, Ok, Err}
use Rattle.answers.specs.Refused.{refusal_number}
use Rattle.format.specs.declared.AudioFormat.{AudioFormat}
use Rattle.reading.specs.declared.Step as code
use Rattle.reading.specs.declared.CAFFileInfo.{CAFFileInfo}
use Rattle.reading.specs.declared.StrictInfo.{StrictInfo}
use Rattle.reading.specs.declared.FoundFile.{FoundFile}
use Rattle.reading.specs.declared.AcceptedFile.{AcceptedFile}
use Rattle.reading.specs.declared.RefusedFile.{RefusedFile}

-- what one step of the walk tells of the chunk at a position: the position after it; of a data chunk the place of its size field, where the
-- data start, and the position after it where the walk goes on; at the end the same two; a refusal's number, and how many headers it met
pub data Step : Type 0 where
  Format : AudioFormat → ℕ → Step
  Skip : ℕ → Step
  Closed : ℕ → ℕ → ℕ → Step
  Data : ℕ → ℕ → Step
  End : ℕ → ℕ → Step
  Refused : ℕ → ℕ → Step

abbrev pub step_of : code.Step → Step
step_of (code.TheVariants.Format f p) = Format f p
step_of (code.TheVariants.Skip p) = Skip p
step_of (code.TheVariants.Closed size start p) = Closed size start p
step_of (code.TheVariants.Data size start) = Data size start
step_of (code.TheVariants.End size start) = End size start
step_of (code.TheVariants.Refused r met) = Refused (refusal_number r) met

-- the plain reading's answer
pub data PlainAnswer : Type 0 where
  Found : CAFFileInfo → ℕ → PlainAnswer
  NotRead : ℕ → ℕ → PlainAnswer

abbrev pub plain_of : Result FoundFile RefusedFile → PlainAnswer
plain_of (Ok a) = Found a.info a.chunks
plain_of (Err r) = NotRead (refusal_number r.refusal) r.chunks

-- and the strict reading's
pub data StrictAnswer : Type 0 where
  Accepted : StrictInfo → ℕ → StrictAnswer
  Rejected : ℕ → ℕ → StrictAnswer

abbrev pub strict_of : Result AcceptedFile RefusedFile → StrictAnswer
strict_of (Ok a) = Accepted a.info a.chunks
strict_of (Err r) = Rejected (refusal_number r.refusal) r.chunks
