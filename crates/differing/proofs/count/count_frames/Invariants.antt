use Rattle.std.proofs.Common.{◌-◌, ◌≤◌, min}
use Rattle.differing.specs.State.{Counted}
use Rattle.differing.proofs.count.count_frames.Given as goal

abbrev pub invariant-loop-from : goal.invariant-loop-from
invariant-loop-from l = (1 ≤ l.step) × Counted l.o l.one l.p l.two l.counts l.first (min l.from l.frames)

abbrev pub decreases-loop-from : goal.decreases-loop-from
decreases-loop-from l = l.frames - l.from
