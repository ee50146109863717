-- Resume into a record that is lent. 01, Numbers given back, has a fresh record beside a refused resume, where the call makes the record; here
-- a record stands already, and a refusal leaves it.
use Rattle.std.specs.Prelude.{◌≡◌, ℕ, cond, List, eqb, Result, Ok, Err}
use Rattle.answers.specs.Numbers.{done}
use Rattle.answers.specs.Refused.{refusal_number}
use Rattle.reading.specs.declared.RefusedFile.{RefusedFile}
use Rattle.writer.specs.Outcome.{buffer_after}
use Rattle.writer.specs.Resume.{resumed, resume_call}
use Rattle.writer.specs.declared.CAFWriter.{CAFWriter}
use Rattle.writer.specs.Shapes.{Resumed}

-- the number, and the count of chunk headers met
pub record ResumeAnswer : Type 0 where
  pub number : ℕ
  pub chunks : ℕ

-- the one that the code's answer stands for
abbrev pub answer_of : Result ℕ RefusedFile → ResumeAnswer
answer_of (Ok k) = record { number = done; chunks = k }
answer_of (Err e) = record { number = refusal_number e.refusal; chunks = e.chunks }

abbrev pub answered : Resumed → ResumeAnswer
answered d = record { number = d.number; chunks = d.chunks }

-- the record after it
abbrev pub resumed_into : CAFWriter → Resumed → CAFWriter
resumed_into w d = cond (eqb d.number done) d.writer w

-- what the call promises: its answer, and the record and the buffer afterwards
abbrev pub LentResume : CAFWriter → List ℕ → ℕ → ResumeAnswer → CAFWriter → List ℕ → Type 0
LentResume w buf len r after last =
    (r ≡ answered (resumed buf len)) × (after ≡ resumed_into w (resumed buf len)) × (last ≡ buffer_after (resume_call buf len) buf)
