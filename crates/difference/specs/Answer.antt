-- The paper's answer of a comparison: what differs, or a refusal's number beside the file that it is of, 1 or 2, or 0 where it is of both. The
-- code answers with a `Result`, and its promise says by `compared_of` which of these that stands for.
use Rattle.std.specs.Prelude.{ℕ, Result, Ok, Err}
use Rattle.answers.specs.Refused.{refusal_number}
use Rattle.difference.specs.declared.Difference.{Difference}
use Rattle.difference.specs.declared.NotCompared.{NotCompared}
use Rattle.difference.specs.declared.Which.{Which}
use Rattle.difference.specs.declared.Which.TheVariants.{Both, First, Second}

pub data Compared : Type 0 where
  Differing : Difference → Compared
  Refused : ℕ → ℕ → Compared

abbrev pub which_number : Which → ℕ
which_number Both = 0
which_number First = 1
which_number Second = 2

abbrev pub compared_of : Result Difference NotCompared → Compared
compared_of (Ok d) = Differing d
compared_of (Err r) = Refused (refusal_number r.refusal) (which_number r.file)
