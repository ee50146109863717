-- A sample is cases one after the other (compare/README.md, The fixed sample). A case that is cut is the last.
use Rattle.std.specs.Prelude.{ℕ, zero, suc, ◌+◌, ◌++◌, cond, List, ltb, length, Option, Some, None, codes, decimal}
use Rattle.cases.specs.Frame.{case_at}
use Rattle.cases.specs.declared.frame.Case.{Case}
use Rattle.cases.specs.declared.tally.Tally.{Tally}

abbrev pub after : (ℕ → ℕ) → Option Case → ℕ
after count None = 0
after count (Some c) = count c.end

-- how many cases stand from a position on, of the next n at the most
abbrev pub cases_from : ℕ → List ℕ → ℕ → ℕ
cases_from zero s at = 0
cases_from (suc n) s at = cond (ltb at (length s)) (1 + after (λ (p : ℕ). cases_from n s p) (case_at s at)) 0

-- of a whole sample: a case is at least one byte long
unfoldable pub case_count : List ℕ → ℕ
case_count s = cases_from (length s) s 0

-- the two lines that the replays print
abbrev pub tally_text : Tally → List ℕ
tally_text t = codes "the same " ++ (decimal t.same ++ (codes "\ndifferent " ++ decimal t.different))
