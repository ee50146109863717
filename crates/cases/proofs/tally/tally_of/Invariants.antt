use Rattle.std.proofs.Common.{◌≡◌, ◌≤◌, ◌+◌, ◌-◌, length}
use Rattle.cases.specs.Tally.{cases_from, case_count}
use Rattle.cases.proofs.tally.tally_of.Given as goal

-- every case before `at` is counted once
abbrev pub invariant-loop-at : goal.invariant-loop-at
invariant-loop-at g l =
    record {
      within : l.same + l.different ≤ l.at;
      counted : case_count l.s ≡ l.same + l.different + cases_from (length l.s - (l.same + l.different)) l.s l.at;
    }

abbrev pub decreases-loop-at : goal.decreases-loop-at
decreases-loop-at g l = length l.s - l.at
