use Prim.Native.Nat.{◌+◌, ◌≤◌}
use mathlib.Core.Path.{sym, ◌∙◌}
use native.Mathlib.Omega.{arith}
use lib.ListN.{length, length-take, length-drop}
use borrow.Author.Tests.{leb-true}
use Rattle.byte_order.proofs.Budget.{part-done}
use Rattle.byte_order.proofs.store.store.Goals.{After-is_there, Else-not-is_there}
use Rattle.byte_order.proofs.store.store.Goals as goal

room : (c : Else-not-is_there) → c.args.at + c.min-count.result ≤ length c.args.buf.now
room c = leb-true _ _ (sym c.is_there.ensures ∙ c.if-not-is_there.false)

pub overflow_add-end : goal.overflow_add-end
overflow_add-end c = omega (arith, room (goal.at.overflow_add-end c).Else-not-is_there)

pub slice_bounds-copy_all-end-2 : goal.slice_bounds-copy_all-end-2
slice_bounds-copy_all-end-2 c = simp length-take (omega (arith, room (goal.at.slice_bounds-copy_all-end-2 c).Else-not-is_there))

pub copy_all-requires : goal.copy_all-requires
copy_all-requires c = simp (length-take, length-drop) (omega (arith, room (goal.at.copy_all-requires c).Else-not-is_there))

pub returns : goal.returns
returns c =
    let a = c.args in
    part-done a.n a.at a.bytes.now a.buf.now c.min-count.result _ c.min-count.ensures c.copy_all.ensures (room (goal.at.returns c).Else-not-is_there)
