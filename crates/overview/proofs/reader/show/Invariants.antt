use Rattle.std.proofs.Common.{◌≡◌, ◌≤◌, ◌++◌, length, drop}
use Rattle.overview.specs.Reader.{shown}
use Rattle.overview.proofs.reader.show.Given as goal

abbrev pub invariant-loop-i : goal.invariant-loop-i
invariant-loop-i l = (l.i ≤ length l.initial.out) × (l.out ≡ shown l.body l.i ++ drop l.i l.initial.out)
