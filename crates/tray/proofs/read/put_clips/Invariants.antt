use Rattle.std.proofs.Common.{◌≡◌}
use Rattle.byte_order.specs.Splice.{splice}
use Rattle.tray.specs.Tray.{clips_in}
use Rattle.tray.specs.Reading.{rows_from, answers_for}
use Rattle.tray.proofs.read.put_clips.Given as goal

abbrev pub invariant-loop-i : goal.invariant-loop-i
invariant-loop-i l = l.out ≡ splice l.initial.out 0 (answers_for (clips_in l.table.tray.now (rows_from l.table.tray.now 0 l.i)))
