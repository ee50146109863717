-- The theorems of the reading in blocks.
use mathlib.Core.Path.{◌≡◌, refl, sym, ◌∙◌, ap}
use mathlib.Core.Bool.{true, false, true≢false}
use mathlib.Core.List.{List, ◌++◌, flatten}
use Prim.Native.Nat.{ℕ}
use lib.ListN.{length, take}
use lib.Seq.{take_all}
use lib.Dec.{leb}
use borrow.Author.Tests.{leb-true, leb-false}
use Rattle.answers.specs.Numbers.{too_long, file_max}
use Rattle.reading.specs.Answers.{strict_count}
use Rattle.reading.specs.Strict.{strict}
use Rattle.reading.specs.Shapes.{StrictAnswer, Accepted, Rejected}
use Rattle.reading.proofs.Choice.{either}
use Rattle.feeder.specs.Record.{fresh, is_by_bytes}
use Rattle.feeder.specs.End.{end_as, end}
use Rattle.feeder.specs.declared.Phase.{Phase}
use Rattle.feeder.specs.declared.Phase.TheVariants.{FileHeader, FirstHeader, Desc, Header, Skipping, Edit, OpenData, ClosedData, Refused}
use Rattle.feeder.specs.declared.Feeder.{Feeder}
use Rattle.feeding.specs.Feed.{is_refused, feed_bytes, feed_all}
use Rattle.fed.specs.Answer.{cut_off, fed_answer}
use Rattle.fed.specs.Claims.{FedIsStrict, FedTooLong, FedIs, FedCounts, GivenByBytes}
use Rattle.fed.proofs.At.{At, Follows}
use Rattle.fed.proofs.Whole.{part-follows, bytes-strict}
use Rattle.fed.proofs.Cut.{end-joined}
use Rattle.fed.proofs.Limit.{off, bytes-long}

pub fed-is-strict : FedIsStrict
fed-is-strict blocks l = end-joined blocks ∙ bytes-strict (flatten blocks) l

pub fed-too-long : FedTooLong
fed-too-long blocks l = end-joined blocks ∙ bytes-long (flatten blocks) l

pub fed-is : FedIs
unfolding fed_answer
fed-is blocks =
    either (λ (x : StrictAnswer). end (feed_all fresh blocks) ≡ x) (leb (length (flatten blocks)) file_max)
    (λ e. fed-is-strict blocks (leb-true (length (flatten blocks)) file_max e))
    (λ e. fed-too-long blocks (leb-false (length (flatten blocks)) file_max e))

-- TooLong keeps the count
off-count : (a : StrictAnswer) → strict_count (cut_off a) ≡ strict_count a
off-count (Accepted v k) = refl
off-count (Rejected number k) = refl

answer-count : (s : List ℕ) → strict_count (fed_answer s) ≡ strict_count (strict (take file_max s))
unfolding fed_answer
answer-count s =
    either (λ (x : StrictAnswer). strict_count x ≡ strict_count (strict (take file_max s))) (leb (length s) file_max)
    (λ e. ap (λ (x : List ℕ). strict_count (strict x)) (sym (take_all file_max s (leb-true (length s) file_max e))))
    (λ e. off-count (strict (take file_max s)))

pub fed-counts : FedCounts
fed-counts blocks = ap strict_count (fed-is blocks) ∙ answer-count (flatten blocks)

-- a record whose end is a refusal that the bytes gave stands at that refusal
waits : (number k j : ℕ) → is_by_bytes number ≡ true → Rejected number k ≡ Rejected too_long j → ⊥
waits number k j e g =
    let n : number ≡ too_long = cc in
    true≢false (sym e ∙ ap is_by_bytes n)

at-refusal : (s : List ℕ) (i : ℕ) (h : List ℕ) (n t j number k : ℕ) (phase : Phase) → end_as n t j phase ≡ Rejected number k → is_by_bytes number ≡ true
    → At s i h n j phase → strict s ≡ Rejected number k
at-refusal s i h n t j number k phase e g a = by phase e a
  where
    no : (phase : Phase) → is_refused phase ≡ false → end_as n t j phase ≡ Rejected number k → ⊥
    no phase x e =
        let c : cut_off (Rejected number k) ≡ Rejected number k = rw g in
        waits number k j g (sym c ∙ ap cut_off (sym e) ∙ off n t j phase x)

    by : (phase : Phase) → end_as n t j phase ≡ Rejected number k → At s i h n j phase → strict s ≡ Rejected number k
    by FileHeader e a = absurd (no FileHeader refl e)
    by FirstHeader e a = absurd (no FirstHeader refl e)
    by Desc e a = absurd (no Desc refl e)
    by (Header f d) e a = absurd (no (Header f d) refl e)
    by (Skipping f d m) e a = absurd (no (Skipping f d m) refl e)
    by (Edit f size) e a = absurd (no (Edit f size) refl e)
    by (OpenData f start) e a = absurd (no (OpenData f start) refl e)
    by (ClosedData f chunk m) e a = absurd (no (ClosedData f chunk m) refl e)
    by (Refused m) e a = a.0 ∙ e

pub given-by-bytes : GivenByBytes
given-by-bytes s more number k l e g =
    let r : Feeder = feed_bytes fresh s in
    let a : Follows (s ++ more) (length s) (feed_bytes fresh s) = part-follows (s ++ more) s more refl l in
    at-refusal (s ++ more) (length s) r.held r.count r.total r.chunks number k r.phase (bytes-strict s l ∙ e) g a.at
