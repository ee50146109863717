use Rattle.std.proofs.Common.{◌≡◌, length}
use Rattle.chan_reading.specs.Seek.{seek}
use Rattle.chan_reading.proofs.seek.seek.Given as goal

abbrev pub invariant-loop-rest : goal.invariant-loop-rest
invariant-loop-rest l = seek l.fn.r l.fn.block ≡ seek l.last l.rest

abbrev pub decreases-loop-rest : goal.decreases-loop-rest
decreases-loop-rest l = length l.rest
