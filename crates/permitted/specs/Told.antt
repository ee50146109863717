-- 01, What a contract here has to say, of contracts that are equations of an image of the result. The documents tell a refusal by its number and the
-- code by its name, so that a contract says by a mapping, as `wrote_of result ≡ ..`, which answer of the documents the result stands for. Such a
-- clause permits one result only where its mapping tells the result: where no two results have one image.
use Rattle.std.specs.Prelude.{ℕ, ◌≡◌, List, Result, IfOk}
use Rattle.answers.specs.Numbers.{done}
use Rattle.answers.specs.Refused.{refusal_number, outcome_number}
use Rattle.answers.specs.declared.refusal.Refusal.{Refusal}
use Rattle.format.specs.declared.AudioFormat.{AudioFormat}
use Rattle.reading.specs.Shapes.{plain_of, strict_of}
use Rattle.reading.specs.declared.RefusedFile.{RefusedFile}
use Rattle.chan_reading.specs.Shapes.{chan_of, read_of, sought_of}
use Rattle.overview.specs.Reader as overview
use Rattle.overview_finding.specs.Find.{place_of}
use Rattle.appending.specs.Append.{Appends, appended_of}
use Rattle.appending.specs.declared.Audio.{Audio}
use Rattle.writer.specs.Outcome.{Outcome, Gives, GivesFirst}
use Rattle.writer.specs.Resume.{GivesResumed, GivesResumedFirst}
use Rattle.writer.specs.Shapes.{wrote_of, counted_of, resumed_of, counted_resume_of}
use Rattle.writer.specs.declared.CAFWriter.{CAFWriter}
use Rattle.writer.specs.declared.RefusedCall.{RefusedCall}
use Rattle.writer.specs.declared.Counted.{Counted}
use Rattle.writer.specs.declared.ResumedFile.{ResumedFile}
use Rattle.writer.specs.declared.CountedResume.{CountedResume}
use Rattle.lent.specs.Calls.{LentCall, LentSetting}
use Rattle.lent.specs.Resume as lent
use Rattle.feeding.specs.Feed as feeding
use Rattle.feeding.specs.declared.Fed.{Fed}
use Rattle.difference.specs.Answer.{compared_of}
use Rattle.conversion.specs.Conversion.{converted_answer}
use Rattle.wave.specs.Making.{head_answer}
use Rattle.permitted.specs.Claims.{AtMostOne}

-- no two have one image
abbrev pub Tells : {A B : Type 0} → (A → B) → Type 0
Tells {A} image = (x y : A) → image x ≡ image y → x ≡ y

pub record ImagesTell : Type 0 where
  -- no refusal has the number of a call that is not refused, and no two have one number
  pub not-done : (r : Refusal) → ¬ (refusal_number r ≡ done)
  pub refusal : Tells refusal_number
  -- a check, a packing, an unpacking, a call on a lent record: no value goes with the number
  pub outcome : Tells (outcome_number {A = Unit {0}})
  -- the plain reading and the strict one
  pub plain : Tells plain_of
  pub strict : Tells strict_of
  -- a `chan`: its head, all of it, and the first one of a file that comes in blocks
  pub chan : Tells chan_of
  pub chan-read : Tells read_of
  pub sought : Tells sought_of
  -- an overview: read, found, appended
  pub overview-read : Tells overview.answer_of
  pub overview-place : Tells place_of
  pub appended : Tells appended_of
  -- a writing or settings call, a resume, and their counted forms
  pub wrote : Tells wrote_of
  pub counted : (len : ℕ) → Tells (counted_of len)
  pub resumed : Tells resumed_of
  pub counted-resume : (len : ℕ) → Tells (counted_resume_of len)
  -- a resume into a lent record
  pub lent-resume : Tells lent.answer_of
  -- a comparison, the header of a WAVE file, and a conversion to one
  pub compared : Tells compared_of
  pub head : Tells head_answer
  pub converted : Tells converted_answer

-- where a value goes with the number, a second clause says which: if it permits one value, the two permit one result
abbrev pub ByNumberAndValue : {A : Type 0} → (A → Type 0) → Type 0
ByNumberAndValue {A} permitted = AtMostOne permitted → (n : ℕ) → AtMostOne (λ (x : Result A Refusal). (outcome_number x ≡ n) × IfOk x permitted)

-- the clauses that say such an image and something beside it: what each permits, the result and the last contents of what was lent, is one
pub record OneByImage : Type 0 where
  pub format : (n : ℕ) (f : AudioFormat) → AtMostOne (λ (x : Result AudioFormat Refusal). (outcome_number x ≡ n) × IfOk x (λ g. g ≡ f))
  pub fed : (fed : feeding.Fed) → AtMostOne (λ (x : Fed). (outcome_number x.outcome ≡ fed.number) × (x.feeder ≡ fed.feeder))
  pub appends : (number : ℕ) (a : Audio) (group : ℕ) (buf : List ℕ)
      → AtMostOne (λ (x : Result ℕ Refusal × List ℕ). Appends number a group (appended_of x.0) buf x.1)
  pub gives : (o : Outcome) (buf : List ℕ) → AtMostOne (λ (x : Result CAFWriter RefusedCall × List ℕ). Gives o (wrote_of x.0) buf x.1)
  pub gives-first : (n : ℕ) (o : Outcome) (w : CAFWriter) (buf : List ℕ)
      → AtMostOne (λ (x : Result Counted Refusal × List ℕ). GivesFirst n o w (counted_of w.file_len x.0) buf x.1)
  pub gives-resumed : (buf : List ℕ) (len : ℕ) → AtMostOne (λ (x : Result ResumedFile RefusedFile × List ℕ). GivesResumed buf len (resumed_of x.0) x.1)
  pub gives-resumed-first : (n : ℕ) (buf : List ℕ) (len : ℕ)
      → AtMostOne (λ (x : Result CountedResume RefusedFile × List ℕ). GivesResumedFirst n buf len (counted_resume_of len x.0) x.1)
  pub lent-call : (o : Outcome) (buf : List ℕ)
      → AtMostOne (λ (x : Result (Unit {0}) Refusal × CAFWriter × List ℕ). LentCall o (outcome_number x.0) x.1 buf x.2)
  pub lent-setting : (o : Outcome) → AtMostOne (λ (x : Result (Unit {0}) Refusal × CAFWriter). LentSetting o (outcome_number x.0) x.1)
  pub lent-resume : (w : CAFWriter) (buf : List ℕ) (len : ℕ)
      → AtMostOne (λ (x : Result ℕ RefusedFile × CAFWriter × List ℕ). lent.LentResume w buf len (lent.answer_of x.0) x.1 x.2)
