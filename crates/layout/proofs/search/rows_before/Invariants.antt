use mathlib.Core.Path.{◌≡◌}
use Prim.Native.Nat.{◌≤◌, ◌+◌}
use lib.ListN.{drop}
use Rattle.layout.specs.Searched.{searched, rows_before}
use Rattle.layout.proofs.search.rows_before.Given as goal

abbrev pub invariant-loop-i : goal.invariant-loop-i
invariant-loop-i l = (l.i ≤ 40) × (rows_before searched l.labels ≡ l.i + rows_before (drop l.i searched) l.labels)
