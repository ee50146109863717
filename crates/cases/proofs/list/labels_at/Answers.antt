use Rattle.std.proofs.Common.{ℕ, refl, sym, arith}
use Rattle.std.proofs.Math.ListN.{length-set}
use Rattle.cases.proofs.Listed.{none_yet, one_more, all_done}
use Rattle.cases.proofs.list.labels_at.Goals as goal

pub loop-i-init : goal.loop-i-init
loop-i-init c = (refl, none_yet (λ (u : ℕ). u) c.args.s.now c.args.p)

pub loop-i-preserved : goal.loop-i-preserved
loop-i-preserved c =
    let many = c.loop-i.invariant.0 in
    (simp length-set many, one_more (λ (u : ℕ). u) c.args.s.now c.args.p c.loop-i.label-items c.loop-i.i _ (omega (arith, many)) c.loop-i.invariant.1 (rw (c.be_u32.ensures, c.saturating_add.ensures)))

pub returns : goal.returns
returns c =
    let many = c.loop-i.invariant.0 in
    (all_done (λ (u : ℕ). u) c.args.s.now c.args.p c.loop-i.label-items c.loop-i.i 256 (omega arith) (sym many) c.loop-i.invariant.1, many)
