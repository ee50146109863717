-- 01, Stores and the cut: what a counted call comes to where its budget is at least the call's stores. Each claim is a type.
use Rattle.std.specs.Prelude.{ℕ, ◌≤◌, ◌≡◌, List, length, ℤ}
use Rattle.writer.specs.Outcome.{Outcome, answer, buffer_after, cut, counted, buffer_cut}
use Rattle.writer.specs.Header.{header_call}
use Rattle.writer.specs.Data.{data_call, samples_call}
use Rattle.writer.specs.Finish.{finish_call}
use Rattle.writer.specs.Resume.{resumed, resume_call, counted_resume}
use Rattle.writer.specs.declared.CAFWriter.{CAFWriter}

-- nothing of the call is cut off
abbrev pub CutWhole : Type 0
CutWhole = (n : ℕ) (o : Outcome) → length o.bytes ≤ n → cut n o ≡ o

-- the counted form's answer is that of the whole call: its number, all of its stores, the length in its next record, and its buffer
pub record SameAsWhole (w : CAFWriter) (o : Outcome) (n : ℕ) : Type 0 where
  pub number : (counted n o w).number ≡ (answer o).number
  pub stores : (counted n o w).stores ≡ length o.bytes
  pub file : (counted n o w).file_len ≡ (answer o).writer.file_len
  pub buffer : (buf : List ℕ) → buffer_cut n o buf ≡ buffer_after o buf

abbrev pub Whole : (CAFWriter → ℕ → Outcome) → Type 0
Whole call = (w : CAFWriter) (room n : ℕ) → length (call w room).bytes ≤ n → SameAsWhole w (call w room) n

-- a resume gives more than the other calls do, and takes no record; it never lengthens the file
pub record ResumeWhole (buf : List ℕ) (len n : ℕ) : Type 0 where
  pub number : (counted_resume n buf len).number ≡ (resumed buf len).number
  pub stores : (counted_resume n buf len).stores ≡ length (resume_call buf len).bytes
  pub file : (counted_resume n buf len).file_len ≡ len
  pub chunks : (counted_resume n buf len).chunks ≡ (resumed buf len).chunks
  pub buffer : buffer_cut n (resume_call buf len) buf ≡ buffer_after (resume_call buf len) buf

pub record WholeCalls : Type 0 where
  pub header : Whole header_call
  pub bytes : (bytes : List ℕ) → Whole (λ w room. data_call w room bytes)
  pub samples : (samples : List ℤ) → Whole (λ w room. samples_call w room samples)
  pub finish : Whole finish_call
  pub resume : (buf : List ℕ) (len n : ℕ) → length (resume_call buf len).bytes ≤ n → ResumeWhole buf len n
