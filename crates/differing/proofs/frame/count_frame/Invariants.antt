use Rattle.differing.specs.State.{by}
use Rattle.difference.specs.Counting.{counts_to, frame_differs}
use lib.Seq.{paste}
use lib.ListN.{length}
use Prim.Native.Nat.{suc, ◌-◌, ◌≤◌}
use mathlib.Core.Path.{◌≡◌}
use Rattle.differing.proofs.frame.count_frame.Given as goal

abbrev pub invariant-loop-c : goal.invariant-loop-c
invariant-loop-c l = (l.c ≤ length l.initial.counts) × (l.counts ≡ paste l.initial.counts 0 (counts_to (by l.o l.one l.p l.two l.initial.counts) (suc l.i) (length l.initial.counts)) l.c) × (l.any ≡ frame_differs (by l.o l.one l.p l.two l.initial.counts) l.i l.c)

abbrev pub decreases-loop-c : goal.decreases-loop-c
decreases-loop-c l = length l.initial.counts - l.c
