use Rattle.std.proofs.Common.{◌≡◌, ◌+◌, ◌*◌, ◌∙◌, arith}
use Rattle.turning.proofs.Swaps.{swap-on, swaps-end}
use Rattle.turning.proofs.turn.turn.Goals as goal

pub loop-i-preserved : goal.loop-i-preserved
loop-i-preserved c =
    let s = c.args.block.now in
    let i = c.loop-i.i in
    let next : 3 * (i + 1) ≡ 3 * i + 3 = omega arith in
    rw next (c.swap.ensures.after ∙ swap-on s c.loop-i.block (3 * i) (omega arith) (omega arith) c.loop-i.invariant)

pub returns : goal.returns
returns c = swaps-end c.args.block.now c.loop-i.block (3 * c.loop-i.i) (omega arith) (omega arith) (omega arith) c.loop-i.invariant
