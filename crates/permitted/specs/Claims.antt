-- 01, What a contract here has to say: any two results that it permits are equal. A contract that is one equation for each thing given back
-- says so by its form, and so does one of an image that tells the result (Told). The calls for C promise records of such equations; here each record
-- is held to it, so that it can lose no field.
use Rattle.std.specs.Prelude.{ℕ, ◌≡◌, Bool, List, ℤ}
use Rattle.writer.specs.Outcome.{Outcome}
use Rattle.writer.specs.declared.CAFWriter.{CAFWriter}
use Rattle.writer.specs.Shapes.{Resumed}
use Rattle.feeding.specs.Feed.{Fed}
use Rattle.record_calls.specs.RecordCalls.{Called, Set, CountedCall}
use Rattle.record_made.specs.RecordMade.{ResumeCall, ResumeCountedCall, StatsCall}
use Rattle.feeder_calls.specs.FeederCalls.{FeederCall}
use Rattle.reading_numbers.specs.ChanNumbers as chan
use Rattle.overview_numbers.specs.OverviewNumbers as overview
use Rattle.wave_numbers.specs.WaveNumbers.{HeaderCall, PlanCall, WaveCall}
use Rattle.comparing_numbers.specs.Told.{CompareCall, SamplesCall}

-- a result: the number, and the last contents of what was lent
abbrev pub AtMostOne : {A : Type 0} → (A → Type 0) → Type 0
AtMostOne {A} permitted = (x y : A) → permitted x → permitted y → x ≡ y

pub record OneResult : Type 0 where
  pub called : (held buf : List ℕ) (o : Outcome) → AtMostOne (λ (x : ℕ × List ℕ × List ℕ). Called held buf o x.0 x.1 x.2)
  pub set : (held : List ℕ) (o : Outcome) → AtMostOne (λ (x : ℕ × List ℕ). Set held o x.0 x.1)
  pub counted : (n : ℕ) (held buf out : List ℕ) (call : CAFWriter → Outcome) → AtMostOne (λ (x : ℕ × List ℕ × List ℕ). CountedCall n held buf out call x.0 x.1 x.2)
  pub resumed : (buf : List ℕ) (len : ℕ) (held chunks : List ℕ) (o : Resumed)
      → AtMostOne (λ (x : ℕ × List ℕ × List ℕ × List ℕ). ResumeCall buf len held chunks o x.0 x.1 x.2 x.3)
  pub resumed-counted : (n : ℕ) (buf : List ℕ) (len : ℕ) (out : List ℕ) → AtMostOne (λ (x : ℕ × List ℕ × List ℕ). ResumeCountedCall n buf len out x.0 x.1 x.2)
  pub stats : (held out : List ℕ) → AtMostOne (λ (x : ℕ × List ℕ). StatsCall held out x.0 x.1)
  pub fed : (held : List ℕ) (fed : Fed) → AtMostOne (λ (x : ℕ × List ℕ). FeederCall held fed x.0 x.1)
  pub chan-read : (body : List ℕ) (channels : ℕ) (out answer : List ℕ)
      → AtMostOne (λ (x : ℕ × List ℕ × List ℕ). chan.ReadCall body channels out answer x.0 x.1 x.2)
  pub overview-read : (body : List ℕ) (channels : ℕ) (out : List ℤ) (said : List ℕ)
      → AtMostOne (λ (x : ℕ × List ℤ × List ℕ). overview.ReadCall body channels out said x.0 x.1 x.2)
  pub wave-header : (info labels : List ℕ) (payload : ℕ) (buf out : List ℕ) → AtMostOne (λ (x : ℕ × List ℕ × List ℕ). HeaderCall info labels payload buf out x.0 x.1 x.2)
  pub wave-plan : (file buf out : List ℕ) → AtMostOne (λ (x : ℕ × List ℕ × List ℕ). PlanCall file buf out x.0 x.1 x.2)
  pub to-wave : (file wave out : List ℕ) → AtMostOne (λ (x : ℕ × List ℕ × List ℕ). WaveCall file wave out x.0 x.1 x.2)
  pub compared : (one two counts out : List ℕ) → AtMostOne (λ (x : ℕ × List ℕ × List ℕ). CompareCall one two counts out x.0 x.1 x.2)
  pub samples-compared : (one : List ℕ) (oneLittle : Bool) (two : List ℕ) (twoLittle : Bool) (counts out : List ℕ)
      → AtMostOne (λ (x : ℕ × List ℕ × List ℕ). SamplesCall one oneLittle two twoLittle counts out x.0 x.1 x.2)
