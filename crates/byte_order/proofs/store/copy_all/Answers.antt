use Rattle.byte_order.proofs.Pieces.{next-piece}
use mathlib.Core.Path.{sym, ◌∙◌}
use Prim.Native.Nat.{◌+◌, ◌≤◌}
use native.Mathlib.Omega.{arith}
use lib.ListN.{length, length-take, length-drop}
use lib.Seq.{take_all}
use Rattle.byte_order.proofs.store.copy_all.Goals as goal

pub copy_piece-requires : goal.copy_piece-requires
copy_piece-requires c = simp (length-take, length-drop) (omega arith)

pub loop-i-preserved : goal.loop-i-preserved
loop-i-preserved c =
    let from = c.args.from.now in
    let within : ◌≤◌ (◌+◌ c.loop-i.i c.min-n.result) (length from) = omega arith in
    let next = next-piece c.loop-i.i c.min-n.result c.loop-i.to from c.copy_piece.new.to within c.loop-i.invariant.1 c.loop-i.invariant.2 c.copy_piece.ensures in
    (within, next.0, next.1)

pub returns : goal.returns
returns c =
    let from = c.args.from.now in
    sym (take_all c.loop-i.i c.loop-i.to (omega arith)) ∙ c.loop-i.invariant.2 ∙ take_all c.loop-i.i from (omega arith)
