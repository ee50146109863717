use mathlib.Core.Path.{◌≡◌}
use Prim.Native.Nat.{◌≤◌}
use lib.ListN.{drop}
use Rattle.layout.specs.Order.{order_in}
use Rattle.layout.specs.Searched.{searched}
use Rattle.layout.proofs.named.searched_row.Given as goal

abbrev pub invariant-loop-i : goal.invariant-loop-i
invariant-loop-i l = (l.i ≤ 40) × (order_in searched l.tag ≡ order_in (drop l.i searched) l.tag)
