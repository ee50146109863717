-- The papers' answers of the writer's calls, by number, and which of them a `Result` of the code stands for.
use Rattle.std.specs.Prelude.{ℕ, Result, Ok, Err}
use Rattle.answers.specs.Numbers.{done}
use Rattle.answers.specs.Refused.{refusal_number}
use Rattle.answers.specs.declared.refusal.Refusal.{Refusal}
use Rattle.reading.specs.declared.RefusedFile.{RefusedFile}
use Rattle.writer.specs.Record.{fresh}
use Rattle.writer.specs.declared.CAFWriter.{CAFWriter}
use Rattle.writer.specs.declared.RefusedCall.{RefusedCall}
use Rattle.writer.specs.declared.Counted as in-code
use Rattle.writer.specs.declared.ResumedFile.{ResumedFile}
use Rattle.writer.specs.declared.CountedResume as resume-code

-- of a writing or settings call: the number, and the record that is handed back
pub record Wrote : Type 0 where
  pub number : ℕ
  pub writer : CAFWriter

-- of a counted call: the number, how many stores it did, and the length of the file then
pub record Counted : Type 0 where
  pub number : ℕ
  pub stores : ℕ
  pub file_len : ℕ

-- of a resume: the number, how many chunk headers the plain reading met, and the record
pub record Resumed : Type 0 where
  pub number : ℕ
  pub chunks : ℕ
  pub writer : CAFWriter

-- of a counted resume
pub record CountedResume : Type 0 where
  pub number : ℕ
  pub stores : ℕ
  pub file_len : ℕ
  pub chunks : ℕ

abbrev pub wrote_of : Result CAFWriter RefusedCall → Wrote
wrote_of (Ok w) = record { number = done; writer = w }
wrote_of (Err e) = record { number = refusal_number e.refusal; writer = e.writer }

-- on a file of len bytes. A refused call has no stores, and leaves the file as long as it was
abbrev pub counted_of : ℕ → Result in-code.Counted Refusal → Counted
counted_of len (Ok c) = record { number = done; stores = c.stores; file_len = c.file_len }
counted_of len (Err e) = record { number = refusal_number e; stores = 0; file_len = len }

-- a refused resume has a fresh record beside its number and its count
abbrev pub resumed_of : Result ResumedFile RefusedFile → Resumed
resumed_of (Ok d) = record { number = done; chunks = d.chunks; writer = d.writer }
resumed_of (Err e) = record { number = refusal_number e.refusal; chunks = e.chunks; writer = fresh }

abbrev pub counted_resume_of : ℕ → Result resume-code.CountedResume RefusedFile → CountedResume
counted_resume_of len (Ok d) = record { number = done; stores = d.stores; file_len = d.file_len; chunks = d.chunks }
counted_resume_of len (Err e) = record { number = refusal_number e.refusal; stores = 0; file_len = len; chunks = e.chunks }
