use Rattle.std.proofs.Common.{◌≡◌, ℕ, ◌+◌, ◌<◌, get_or}
use Rattle.numbers.specs.Words.{low}
use Rattle.record_numbers.proofs.record_from_numbers.labels_of.Given as goal

abbrev pub invariant-loop-i : goal.invariant-loop-i
invariant-loop-i l = (k : ℕ) → k < l.i → get_or l.label-items k 0 ≡ low l.numbers (12 + k)
