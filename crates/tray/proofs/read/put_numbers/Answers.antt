use Rattle.std.proofs.Common.{length, arith}
use Rattle.tray.proofs.Number.{told-done, enough}
use Rattle.tray.proofs.read.put_numbers.Goals as goal

pub put_clips-requires : goal.put_clips-requires
put_clips-requires c =
    let n = c.in_ok-table.ensures in
    let s = c.args.tray.now in
    let t = told-done s (length c.args.out.now) n.number in
    (omega (arith, enough s (length c.args.out.now) n.number, n.table.1), rw (n.table.0, n.table.1) t.fit)
