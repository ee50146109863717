use Rattle.std.proofs.Common.{◌≡◌}
use Rattle.byte_order.specs.Splice.{splice}
use Rattle.chan_reading.specs.Read.{described}
use Rattle.chan_reading.proofs.describe.put_described.Given as goal

abbrev pub invariant-loop-i : goal.invariant-loop-i
invariant-loop-i l = l.out ≡ splice l.initial.out 0 (described l.body l.i)
