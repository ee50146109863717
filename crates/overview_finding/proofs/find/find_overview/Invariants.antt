use Rattle.std.proofs.Common.{◌≡◌, ◌≤◌, ◌-◌, length}
use Rattle.overview_finding.specs.Find.{find_overview, find_from}
use Rattle.overview_finding.proofs.find.find_overview.Given as goal

abbrev pub invariant-loop-p : goal.invariant-loop-p
invariant-loop-p l = (l.p ≤ length l.s) × (find_overview l.s ≡ find_from l.s l.after l.p)

abbrev pub decreases-loop-p : goal.decreases-loop-p
decreases-loop-p l = length l.s - l.p
