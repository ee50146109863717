use Rattle.differing.specs.State.{Counted}
use Rattle.differing.proofs.group.count_each.Given as goal

abbrev pub invariant-loop-i : goal.invariant-loop-i
invariant-loop-i l = Counted l.o l.one l.p l.two l.counts l.last l.i
