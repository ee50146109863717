use Rattle.std.proofs.Common.{◌<◌, length, add-one, arith}
use Rattle.tray.proofs.Writes.{sum_drop, sum-take, sum-parts, rows_on}
use Rattle.tray.proofs.write.put_rows.Goals as goal

pub overflow_add-at : goal.overflow_add-at
overflow_add-at c =
    let xs = c.args.lengths.now in
    omega (arith, c.requires.2, sum-parts xs c.loop-i.i, sum_drop xs c.loop-i.i (omega arith))

pub loop-i-preserved : goal.loop-i-preserved
loop-i-preserved c =
    let xs = c.args.lengths.now in
    let h : c.loop-i.i < length xs = omega arith in
    let l = c.loop-i.invariant in
    record {
      place = rw add-one (omega (arith, sum-take xs c.loop-i.i h));
      stored = rw add-one (rows_on c.args.out.now xs c.args.first c.loop-i.i h c.requires.1 l.stored c.row_place.ensures l.place c.put_row.ensures);
    }
