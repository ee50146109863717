use Rattle.std.proofs.Common.{length, add-one, arith}
use Rattle.tray.specs.Tray.{row_place}
use Rattle.tray.proofs.Puts.{row-fit, put-more, clip-cut}
use Rattle.tray.proofs.read.put_clips.Goals as goal

pub overflow_add-end : goal.overflow_add-end
overflow_add-end c =
    let t = c.args.table in
    let h = row-fit t.tray.now (row_place t.count) (length t.tray.now) t.count c.loop-i.i c.requires.1 (omega arith) in
    omega (arith, c.row_at-row.ensures)

pub slice_bounds-put_clip-end : goal.slice_bounds-put_clip-end
slice_bounds-put_clip-end c =
    let t = c.args.table in
    let h = row-fit t.tray.now (row_place t.count) (length t.tray.now) t.count c.loop-i.i c.requires.1 (omega arith) in
    omega (arith, c.row_at-row.ensures)

pub loop-i-preserved : goal.loop-i-preserved
loop-i-preserved c =
    let row = c.row_at-row.ensures in
    rw add-one (put-more c.args.table.tray.now c.args.out.now c.loop-i.i c.loop-i.auto.out c.loop-i.invariant c.put_clip.ensures (clip-cut c.args.table.tray.now c.loop-i.i row.0 row.1) (omega (arith, c.requires.0)))
