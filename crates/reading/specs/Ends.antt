-- What the answers of the walk's own functions say. They carry no format: the strict reading keeps its one beside the walk, so what is said
-- here holds with any. No definition of a reading rests on this page.
use Rattle.std.specs.Prelude.{ℕ, ◌+◌, ◌*◌, ◌≤◌, ◌≡◌, cond, List, length, ltb, Option, Result, Ok, Err}
use Rattle.answers.specs.Numbers.{cut_short, no_data}
use Rattle.answers.specs.Refused.{refusal_number}
use Rattle.answers.specs.declared.refusal.Refusal.{Refusal}
use Rattle.answers.specs.declared.refusal.Refusal.TheVariants.{CutShort, BadRate}
use Rattle.byte_order.specs.Big.{big_at}
use Rattle.format.specs.Desc.{format_at, desc_size}
use Rattle.format.specs.declared.AudioFormat.{AudioFormat}
use Rattle.reading.specs.Types.{type_size, chunk_header_size, size_to_data}
use Rattle.reading.specs.Shapes.{Step, Skip, Refused, PlainAnswer, Found, NotRead}
use Rattle.reading.specs.Step.{left, bad_rate_at}
use Rattle.reading.specs.Rules.{Rules, Strict, Tail, strict_data, on_data, on_rest}
use Rattle.reading.specs.Walk.{info_of, next, walk}
use Rattle.reading.specs.Table.{Strictly}
use Rattle.reading.specs.declared.Stop.{Stop}
use Rattle.reading.specs.declared.Stop.TheVariants as stop
use Rattle.reading.specs.declared.DataSize.{DataSize}
use Rattle.reading.specs.declared.RefusedFile.{RefusedFile}

-- the format in the body of a `desc`: the tests of `desc_at`
abbrev pub desc_format : List ℕ → ℕ → Result AudioFormat Refusal
desc_format s body =
    cond (ltb (left s body) desc_size) (Err CutShort)
    (cond (bad_rate_at s body) (Err BadRate)
    (Ok (format_at s body)))

-- the step over a chunk that is passed over by its size
abbrev pub over_as : Result ℕ Refusal → Step
over_as (Ok q) = Skip q
over_as (Err r) = Refused (refusal_number r) 1

-- the number of `before_data`
abbrev pub rest_number : ℕ → ℕ
rest_number n = cond (ltb n type_size) no_data cut_short

-- what the walk by the strict rules comes to from where a run of other chunks stops
abbrev pub stopped : List ℕ → Rules → Option AudioFormat → Result Stop RefusedFile → PlainAnswer
stopped s rules f (Ok (stop.Rest n k)) = next (walk s) rules f k (on_rest rules n)
stopped s rules f (Ok (stop.Data p k)) = next (walk s) rules f k (on_data rules s p)
stopped s rules f (Err r) = NotRead (refusal_number r.refusal) r.chunks

-- the header of a data chunk stands in the file, after those that were counted
abbrev pub HeaderWithin : List ℕ → Result Stop RefusedFile → Type 0
HeaderWithin s (Ok (stop.Rest n k)) = Unit {0}
HeaderWithin s (Ok (stop.Data p k)) = (p + chunk_header_size ≤ length s) × (chunk_header_size * k ≤ p)
HeaderWithin s (Err r) = Unit {0}

pub record Stops (s : List ℕ) (from met : ℕ) (r : Result Stop RefusedFile) : Type 0 where
  pub walked : (rules : Rules) (f : Option AudioFormat) → Strictly rules → walk s rules from f met ≡ stopped s rules f r
  pub within : HeaderWithin s r

-- the plain answer that the strict walk's is, with a format
abbrev pub ended_as : Option AudioFormat → Result DataSize RefusedFile → PlainAnswer
ended_as f (Ok d) = Found (info_of f d.position (d.position + size_to_data)) d.chunks
ended_as f (Err r) = NotRead (refusal_number r.refusal) r.chunks

-- the size is the one of the field, and the data start in the file
abbrev pub SizeTold : List ℕ → Result DataSize RefusedFile → Type 0
SizeTold s (Ok d) = (d.size ≡ big_at 8 s d.position) × (d.position + size_to_data ≤ length s)
SizeTold s (Err r) = Unit {0}

pub record Ends (s : List ℕ) (answer : Option AudioFormat → PlainAnswer) (r : Result DataSize RefusedFile) : Type 0 where
  pub walked : (f : Option AudioFormat) → answer f ≡ ended_as f r
  pub told : SizeTold s r

-- the walk before the data, and at them
abbrev pub EndsWalk : List ℕ → ℕ → ℕ → Result DataSize RefusedFile → Type 0
EndsWalk s from met r = Ends s (λ (f : Option AudioFormat). walk s Strict from f met) r

abbrev pub EndsData : List ℕ → ℕ → ℕ → Result DataSize RefusedFile → Type 0
EndsData s p met r = Ends s (λ (f : Option AudioFormat). next (walk s) Strict f met (strict_data s p)) r

-- after them, wherever the data's size field stands and the data start
abbrev pub tail_as : ℕ → ℕ → Option AudioFormat → Result ℕ RefusedFile → PlainAnswer
tail_as size start f (Ok k) = Found (info_of f size start) k
tail_as size start f (Err r) = NotRead (refusal_number r.refusal) r.chunks

pub record EndsTail (s : List ℕ) (from met : ℕ) (r : Result ℕ RefusedFile) : Type 0 where
  pub walked : (size start : ℕ) (f : Option AudioFormat) → walk s (Tail size start) from f met ≡ tail_as size start f r
