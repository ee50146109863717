use Rattle.std.proofs.Common.{◌≡◌, true}
use Rattle.differing.specs.State.{SameFrom}
use Rattle.differing.proofs.turned.same_each.Given as goal

abbrev pub invariant-loop-i : goal.invariant-loop-i
invariant-loop-i l = l.same ≡ true → SameFrom l.o l.one l.p l.two l.fn.from l.i
