use Rattle.std.proofs.Common.{◌≡◌, ◌*◌, ◌++◌, take, drop}
use Rattle.turning.specs.Turned.{turned}
use Rattle.turning.proofs.turn.turn.Given as goal

abbrev pub invariant-loop-i : goal.invariant-loop-i
invariant-loop-i l = l.block ≡ turned (take (3 * l.i) l.initial.block) ++ drop (3 * l.i) l.initial.block
