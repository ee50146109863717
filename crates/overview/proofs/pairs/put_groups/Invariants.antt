use Rattle.std.proofs.Common.{◌≡◌}
use Rattle.byte_order.specs.Splice.{splice}
use Rattle.overview.specs.Groups.{group_pairs}
use Rattle.overview.proofs.pairs.put_groups.Given as goal

abbrev pub invariant-loop-k : goal.invariant-loop-k
invariant-loop-k l = l.buf ≡ splice l.initial.buf l.at (group_pairs l.track l.initial.buf l.group l.frames l.k)
