use Rattle.std.proofs.Common.{◌≡◌, ◌*◌, true}
use Rattle.differing.specs.State.{SameFrom}
use Rattle.differing.proofs.turned.same_pairs.Given as goal

abbrev pub invariant-loop-i : goal.invariant-loop-i
invariant-loop-i l = l.same ≡ true → SameFrom l.o l.one l.p l.two 0 (2 * l.i)
