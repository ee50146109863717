use Rattle.std.proofs.Common.{length, add-one, arith}
use Rattle.tray.specs.Tray.{row_place}
use Rattle.tray.proofs.Puts.{fits-no, fits_on}
use Rattle.tray.proofs.table.Table.rows_fit.Goals as goal

pub loop-i-preserved : goal.loop-i-preserved
loop-i-preserved c =
    let s = c.args.self.tray.now in
    let n = c.args.self.count in
    rw add-one (fits_on s (row_place n) (length s) c.loop-i.i n c.loop-i.invariant (omega arith) c.row_fits.ensures c.if-not-row_fits.false)

pub returns-then-not-row_fits : goal.returns-then-not-row_fits
returns-then-not-row_fits c =
    let s = c.args.self.tray.now in
    let n = c.args.self.count in
    fits-no s (row_place n) (length s) c.loop-i.i n c.loop-i.invariant (omega arith) c.row_fits.ensures c.if-not-row_fits.true
