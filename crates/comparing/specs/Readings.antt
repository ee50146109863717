-- What the readings of one file come to: its values, or why it is refused.
use Rattle.std.specs.Prelude.{ℕ, ◌≡◌, List, Result, Ok, Err}
use Rattle.answers.specs.Numbers.{done}
use Rattle.answers.specs.Refused.{refusal_number}
use Rattle.reading.specs.Strict.{strict}
use Rattle.reading.specs.declared.StrictInfo.{StrictInfo}
use Rattle.reading.specs.Shapes.{Accepted, Rejected}
use Rattle.difference.specs.Compared.{number_in}
use Rattle.difference.specs.Table.{Read}
use Rattle.difference.specs.declared.NotCompared.{NotCompared}
use Rattle.difference.specs.declared.Which.{Which}

-- a file that the strict reading or T-03 refuses with this number
pub data NotRead (s : List ℕ) (number : ℕ) : Type 0 where
  rejected : (k : ℕ) → strict s ≡ Rejected number k → NotRead s number
  layout : (v : StrictInfo) (k : ℕ) → strict s ≡ Accepted v k → number ≡ number_in s v → ¬ (number ≡ done) → NotRead s number

abbrev pub IsRead : List ℕ → Which → Result StrictInfo NotCompared → Type 0
IsRead s file (Ok v) = Read s v
IsRead s file (Err r) = (r.file ≡ file) × NotRead s (refusal_number r.refusal)
