-- Each mapping from a result of the code to an answer of the documents tells the result. What is refused and what is not are told apart by the
-- number, and so are two refusals; of the same kind each field is the field of the other.
use Rattle.std.proofs.Common.{◌≡◌, ℕ, Option, Some, None, Result, Ok, Err, cond, eqb, sym, refl, ap, ◌∙◌}
use Rattle.answers.specs.Numbers.{done}
use Rattle.answers.specs.Refused.{refusal_number, refusal_for, outcome_number, number-tells}
use Rattle.answers.specs.declared.refusal.Refusal.{Refusal}
use Rattle.reading.specs.Shapes.{plain_of, strict_of, PlainAnswer, Found, NotRead, StrictAnswer, Accepted, Rejected}
use Rattle.reading.specs.declared.RefusedFile.{RefusedFile}
use Rattle.reading.specs.declared.FoundFile.{FoundFile}
use Rattle.reading.specs.declared.AcceptedFile.{AcceptedFile}
use Rattle.chan_reading.specs.declared.ChanHead.{ChanHead}
use Rattle.chan_reading.specs.Shapes.{ChanAnswer, Given, Refused, chan_of, read_of, sought_of}
use Rattle.overview.specs.Reader as overview
use Rattle.overview_finding.specs.Find.{place_of}
use Rattle.appending.specs.Append.{appended_of}
use Rattle.writer.proofs.Tests.{refusal-not_done}
use Rattle.writer.specs.Shapes.{wrote_of, counted_of, resumed_of, counted_resume_of}
use Rattle.lent.specs.Resume as lent
use Rattle.difference.specs.Answer as difference
use Rattle.difference.specs.declared.NotCompared.{NotCompared}
use Rattle.difference.specs.declared.Which.{Which}
use Rattle.difference.specs.declared.Which.TheVariants.{Both, First, Second}
use Rattle.conversion.specs.Conversion.{converted_answer}
use Rattle.wave.specs.Making.{head_answer}
use Rattle.permitted.specs.Told.{Tells, ImagesTell, ByNumberAndValue, OneByImage}
use Rattle.permitted.proofs.Theorems.{same}

refusal : Tells refusal_number
refusal r q e = let s : ◌≡◌ {A = Option Refusal} (Some r) (Some q) = sym (number-tells r) ∙ ap refusal_for e ∙ number-tells q in cc

-- told by its number, and by what goes with it
by-number : {A E B : Type 0} (image : Result A E → B) (number : B → ℕ) (reason : E → Refusal)
    → ((x : A) → number (image (Ok x)) ≡ done)
    → ((e : E) → number (image (Err e)) ≡ refusal_number (reason e))
    → ((x y : A) → image (Ok x) ≡ image (Ok y) → x ≡ y)
    → ((d e : E) → image (Err d) ≡ image (Err e) → reason d ≡ reason e → d ≡ e)
    → Tells image
by-number image number reason accepted refused value rest (Ok x) (Ok y) p = ap Ok (value x y p)
by-number image number reason accepted refused value rest (Ok x) (Err e) p =
    absurd (refusal-not_done (reason e) (sym (refused e) ∙ ap number (sym p) ∙ accepted x))
by-number image number reason accepted refused value rest (Err d) (Ok y) p =
    absurd (refusal-not_done (reason d) (sym (refused d) ∙ ap number p ∙ accepted y))
by-number image number reason accepted refused value rest (Err d) (Err e) p =
    ap Err (rest d e p (refusal (reason d) (reason e) (sym (refused d) ∙ ap number p ∙ refused e)))

-- a second clause tells the value
pub number-and-value : {A : Type 0} (permitted : A → Type 0) → ByNumberAndValue permitted
number-and-value permitted one n (Ok x) (Ok y) p q = ap Ok (one x y p.1 q.1)
number-and-value permitted one n (Ok x) (Err e) p q = absurd (refusal-not_done e (q.0 ∙ sym p.0))
number-and-value permitted one n (Err d) (Ok y) p q = absurd (refusal-not_done d (p.0 ∙ sym q.0))
number-and-value permitted one n (Err d) (Err e) p q = ap Err (refusal d e (same p.0 q.0))

outcome : Tells (outcome_number {A = Unit {0}})
outcome = by-number outcome_number (λ n. n) (λ e. e) (λ x. refl) (λ e. refl) (λ x y p i. tt) (λ d e p r. r)

refused-file : (d e : RefusedFile) → d.refusal ≡ e.refusal → d.chunks ≡ e.chunks → d ≡ e
refused-file d e r k i = record { refusal = r i; chunks = k i }

abbrev plain_number : PlainAnswer → ℕ
plain_number (Found info k) = done
plain_number (NotRead number k) = number

plain : Tells plain_of
plain = by-number plain_of plain_number (λ e. e.refusal) (λ x. refl) (λ e. refl) value rest
  where
    value : (x y : FoundFile) → Found x.info x.chunks ≡ Found y.info y.chunks → x ≡ y
    value x y p = let info : x.info ≡ y.info = cc in let chunks : x.chunks ≡ y.chunks = cc in λ i. record { info = info i; chunks = chunks i }

    rest : (d e : RefusedFile) → plain_of (Err d) ≡ plain_of (Err e) → d.refusal ≡ e.refusal → d ≡ e
    rest d e p r = refused-file d e r cc

abbrev strict_number : StrictAnswer → ℕ
strict_number (Accepted info k) = done
strict_number (Rejected number k) = number

strict : Tells strict_of
strict = by-number strict_of strict_number (λ e. e.refusal) (λ x. refl) (λ e. refl) value rest
  where
    value : (x y : AcceptedFile) → Accepted x.info x.chunks ≡ Accepted y.info y.chunks → x ≡ y
    value x y p = let info : x.info ≡ y.info = cc in let chunks : x.chunks ≡ y.chunks = cc in λ i. record { info = info i; chunks = chunks i }

    rest : (d e : RefusedFile) → strict_of (Err d) ≡ strict_of (Err e) → d.refusal ≡ e.refusal → d ≡ e
    rest d e p r = refused-file d e r cc

abbrev chan_number : ChanAnswer → ℕ
chan_number (Given head) = done
chan_number (Refused number) = number

given : (g h : ChanHead) → Given g ≡ Given h → g ≡ h
given g h p = cc

chan : Tells chan_of
chan = by-number chan_of chan_number (λ e. e) (λ x. refl) (λ e. refl) given (λ d e p r. r)

chan-read : Tells read_of
chan-read =
    by-number read_of (λ b. chan_number b.answer) (λ e. e) (λ x. refl) (λ e. refl)
    (λ x y p i. record { head = given x.head y.head (ap (λ b. b.answer) p) i; order = (p i).order })
    (λ d e p r. r)

sought : Tells sought_of
sought None None p = refl
sought None (Some b) p = let z : ⊥ = cc in absurd z
sought (Some a) None p = let z : ⊥ = cc in absurd z
sought (Some a) (Some b) p = ap Some (chan a b cc)

overview-read : Tells overview.answer_of
overview-read =
    by-number overview.answer_of (λ b. b.number) (λ e. e) (λ x. refl) (λ e. refl)
    (λ x y p i. record { edits = (p i).edits; frames = (p i).frames; groups = (p i).groups })
    (λ d e p r. r)

overview-place : Tells place_of
overview-place None None p = refl
overview-place None (Some b) p = let z : ⊥ = cc in absurd z
overview-place (Some a) None p = let z : ⊥ = cc in absurd z
overview-place (Some a) (Some b) p =
    let start : a.start ≡ b.start = cc in let size : a.size ≡ b.size = cc in λ i. Some (record { start = start i; size = size i })

appended : Tells appended_of
appended = by-number appended_of (λ b. b.number) (λ e. e) (λ x. refl) (λ e. refl) (λ x y p i. (p i).stores) (λ d e p r. r)

wrote : Tells wrote_of
wrote =
    by-number wrote_of (λ b. b.number) (λ e. e.refusal) (λ x. refl) (λ e. refl)
    (λ x y p i. (p i).writer)
    (λ d e p r i. record { refusal = r i; writer = (p i).writer })

counted : (len : ℕ) → Tells (counted_of len)
counted len =
    by-number (counted_of len) (λ b. b.number) (λ e. e) (λ x. refl) (λ e. refl)
    (λ x y p i. record { stores = (p i).stores; file_len = (p i).file_len })
    (λ d e p r. r)

resumed : Tells resumed_of
resumed =
    by-number resumed_of (λ b. b.number) (λ e. e.refusal) (λ x. refl) (λ e. refl)
    (λ x y p i. record { writer = (p i).writer; chunks = (p i).chunks })
    (λ d e p r. refused-file d e r (ap (λ b. b.chunks) p))

counted-resume : (len : ℕ) → Tells (counted_resume_of len)
counted-resume len =
    by-number (counted_resume_of len) (λ b. b.number) (λ e. e.refusal) (λ x. refl) (λ e. refl)
    (λ x y p i. record { stores = (p i).stores; file_len = (p i).file_len; chunks = (p i).chunks })
    (λ d e p r. refused-file d e r (ap (λ b. b.chunks) p))

lent-resume : Tells lent.answer_of
lent-resume =
    by-number lent.answer_of (λ b. b.number) (λ e. e.refusal) (λ x. refl) (λ e. refl)
    (λ x y p i. (p i).chunks)
    (λ d e p r. refused-file d e r (ap (λ b. b.chunks) p))

abbrev compared_number : difference.Compared → ℕ
compared_number (difference.Differing d) = done
compared_number (difference.Refused number file) = number

abbrev which_for : ℕ → Which
which_for n = cond (eqb n 0) Both (cond (eqb n 1) First Second)

which_back : (w : Which) → which_for (difference.which_number w) ≡ w
which_back Both = refl
which_back First = refl
which_back Second = refl

compared : Tells difference.compared_of
compared = by-number difference.compared_of compared_number (λ e. e.refusal) (λ x. refl) (λ e. refl) (λ x y p. cc) rest
  where
    rest : (d e : NotCompared) → difference.compared_of (Err d) ≡ difference.compared_of (Err e) → d.refusal ≡ e.refusal → d ≡ e
    rest d e p r =
        let w : difference.which_number d.file ≡ difference.which_number e.file = cc in
        let f : d.file ≡ e.file = sym (which_back d.file) ∙ ap which_for w ∙ which_back e.file in
        λ i. record { refusal = r i; file = f i }

head : Tells head_answer
head =
    by-number head_answer (λ b. b.number) (λ e. e) (λ x. refl) (λ e. refl)
    (λ x y p i. record { size = (p i).size; bytes = (p i).bytes })
    (λ d e p r. r)

converted : Tells converted_answer
converted = by-number converted_answer (λ b. b.number) (λ e. e) (λ x. refl) (λ e. refl) (λ x y p i. (p i).length) (λ d e p r. r)

pub images-tell : ImagesTell
images-tell =
    record {
      not-done = refusal-not_done;
      refusal = refusal;
      outcome = outcome;
      plain = plain;
      strict = strict;
      chan = chan;
      chan-read = chan-read;
      sought = sought;
      overview-read = overview-read;
      overview-place = overview-place;
      appended = appended;
      wrote = wrote;
      counted = counted;
      resumed = resumed;
      counted-resume = counted-resume;
      lent-resume = lent-resume;
      compared = compared;
      head = head;
      converted = converted;
    }

pub one-by-image : OneByImage
one-by-image =
    record {
      format = λ n f. number-and-value (λ g. g ≡ f) (λ x y p q. same p q) n;
      fed = λ f x y p q i. record { outcome = outcome x.outcome y.outcome (same p.0 q.0) i; feeder = same p.1 q.1 i };
      appends = λ number a group buf x y p q i. (appended x.0 y.0 (same p.0 q.0) i, same p.1 q.1 i);
      gives = λ o buf x y p q i. (wrote x.0 y.0 (same p.0 q.0) i, same p.1 q.1 i);
      gives-first = λ n o w buf x y p q i. (counted w.file_len x.0 y.0 (same p.0 q.0) i, same p.1 q.1 i);
      gives-resumed = λ buf len x y p q i. (resumed x.0 y.0 (same p.0 q.0) i, same p.1 q.1 i);
      gives-resumed-first = λ n buf len x y p q i. (counted-resume len x.0 y.0 (same p.0 q.0) i, same p.1 q.1 i);
      lent-call = λ o buf x y p q i. (outcome x.0 y.0 (same p.0 q.0) i, same p.1 q.1 i, same p.2 q.2 i);
      lent-setting = λ o x y p q i. (outcome x.0 y.0 (same p.0 q.0) i, same p.1 q.1 i);
      lent-resume = λ w buf len x y p q i. (lent-resume x.0 y.0 (same p.0 q.0) i, same p.1 q.1 i, same p.2 q.2 i);
    }
