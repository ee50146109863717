use Prim.Native.Nat.{◌-◌}
use lib.ListN.{length}
use Rattle.feeding.proofs.WholeChunks.{Walking}
use Rattle.feeding.proofs.chunks.walk.Given as goal

abbrev pub invariant-loop-n : goal.invariant-loop-n
invariant-loop-n l = Walking l.s l.w

abbrev pub decreases-loop-n : goal.decreases-loop-n
decreases-loop-n l = length l.s - l.w.to
