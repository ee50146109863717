use Rattle.std.proofs.Common.{◌≡◌, ◌-◌, length}
use Rattle.tray.specs.Tray.{row_place}
use Rattle.tray.specs.Reading.{rows_from, all_fit}
use Rattle.tray.proofs.table.Table.rows_fit.Given as goal

abbrev pub invariant-loop-i : goal.invariant-loop-i
invariant-loop-i l =
    let s = l.self.tray.now in
    let n = l.self.count in
    all_fit (row_place n) (length s) (rows_from s 0 n) ≡ all_fit (row_place n) (length s) (rows_from s l.i (n - l.i))
