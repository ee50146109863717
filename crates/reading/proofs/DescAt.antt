-- What the 32 bytes at a position say, read as the body of a `desc`.
use Rattle.std.proofs.Common.{◌≡◌, ℕ, List, Bool, take, drop, Option, Some, None, Ok, Err, true, false, cond, refl, ◌∙◌, ap}
use Rattle.std.specs.Option.{ok_or}
use Rattle.answers.specs.declared.refusal.Refusal.TheVariants.{CutShort, BadRate}
use Rattle.answers.specs.declared.refusal.Refusal.{Refusal}
use Rattle.answers.specs.Refused.{refusal_number}
use Rattle.answers.specs.Numbers.{cut_short, bad_rate}
use lib.Dec.{ltb}
use Rattle.format.specs.Desc.{desc_size, format_at}
use Rattle.format.specs.FormatAnswers.{desc_read}
use Rattle.format.specs.declared.AudioFormat.{AudioFormat}
use Rattle.format.proofs.DescPart.{desc-part}
use Rattle.reading.specs.Shapes.{StrictAnswer, Rejected}
use Rattle.reading.specs.Step.{left, bad_rate_at}
use Rattle.reading.specs.Strict.{after_desc, first_body}
use Rattle.reading.specs.Ends.{desc_format}

pub desc_told : (s : List ℕ) (p : ℕ) {body : List ℕ} → body ≡ take desc_size (drop p s)
    → ok_or (desc_read body) BadRate ≡ cond (bad_rate_at s p) (Err BadRate) (Ok (format_at s p))
desc_told s p is = ap (λ (o : Option AudioFormat). ok_or o BadRate) (ap desc_read is ∙ desc-part s p) ∙ go (bad_rate_at s p) (format_at s p)
  where
    go : (b : Bool) (f : AudioFormat) → ok_or (cond b None (Some f)) BadRate ≡ cond b (Err BadRate) (Ok f)
    go true f = refl
    go false f = refl

-- where the description is refused, so is the file
pub first-refused : (s : List ℕ) {r : Refusal} → Err r ≡ desc_format s 20 → Rejected (refusal_number r) 1 ≡ first_body s
first-refused s {r} e = go (ltb (left s 20) desc_size) (bad_rate_at s 20) (format_at s 20) (after_desc s (format_at s 20)) e
  where
    go : (a b : Bool) (f : AudioFormat) (x : StrictAnswer) → Err r ≡ cond a (Err CutShort) (cond b (Err BadRate) (Ok f))
        → Rejected (refusal_number r) 1 ≡ cond a (Rejected cut_short 1) (cond b (Rejected bad_rate 1) x)
    go true b f x h = let z : r ≡ CutShort = cc in rw z
    go false true f x h = let z : r ≡ BadRate = cc in rw z
    go false false f x h = cc
