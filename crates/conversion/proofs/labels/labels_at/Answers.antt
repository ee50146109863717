use mathlib.Core.Path.{ap, ◌∙◌}
use mathlib.Core.List.{List}
use Prim.Native.Nat.{ℕ}
use native.Mathlib.Omega.{arith}
use lib.ListN.{length, set}
use Rattle.conversion.proofs.Orders.{held-length, none-held, one-held, all_held}
use Rattle.conversion.proofs.labels.labels_at.Goals as goal

pub loop-i-init : goal.loop-i-init
loop-i-init c = none-held c.args.body.now

pub bounds-labels-i : goal.bounds-labels-i
bounds-labels-i c = omega (arith, ap length c.loop-i.invariant, held-length c.args.body.now c.loop-i.i (omega arith))

pub loop-i-preserved : goal.loop-i-preserved
loop-i-preserved c =
    let body = c.args.body.now in
    ap (λ (k : List ℕ). set k c.loop-i.i c.be_u32.result) c.loop-i.invariant ∙ one-held body c.loop-i.i c.be_u32.result (omega arith) c.be_u32.ensures

pub returns : goal.returns
returns c = c.loop-i.invariant ∙ all_held c.args.body.now c.loop-i.i c.args.n (omega arith)
