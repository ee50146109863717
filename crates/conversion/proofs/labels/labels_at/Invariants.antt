use Rattle.std.proofs.Common.{◌≡◌}
use Rattle.conversion.proofs.Orders.{held}
use Rattle.conversion.proofs.labels.labels_at.Given as goal

abbrev pub invariant-loop-i : goal.invariant-loop-i
invariant-loop-i l = l.labels ≡ held l.body l.i
