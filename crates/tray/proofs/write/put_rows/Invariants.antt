use Rattle.std.proofs.Common.{◌≡◌, ◌+◌, take}
use Rattle.byte_order.specs.Splice.{splice}
use Rattle.tray.specs.Tray.{rows_bytes}
use Rattle.tray.specs.Making.{placed, sum}
use Rattle.tray.proofs.write.put_rows.Given as goal

abbrev pub invariant-loop-i : goal.invariant-loop-i
invariant-loop-i l =
    record {
      place : l.at ≡ l.first + sum (take l.i l.lengths);
      stored : l.out ≡ splice l.initial.out 4 (rows_bytes (placed l.first (take l.i l.lengths)));
    }
