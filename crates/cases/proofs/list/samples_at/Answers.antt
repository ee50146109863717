use Rattle.std.proofs.Common.{refl, sym, ◌∙◌, arith}
use Rattle.std.proofs.Math.ListN.{length-set}
use mir.Syntax.{w32}
use mir.ValLaws.{to_z-of_z}
use Rattle.cases.specs.List.{signed32}
use Rattle.cases.proofs.Listed.{none_yet, one_more, all_done}
use Rattle.cases.proofs.list.samples_at.Goals as goal

pub loop-i-init : goal.loop-i-init
loop-i-init c = (refl, none_yet signed32 c.args.s.now c.args.p)

pub loop-i-preserved : goal.loop-i-preserved
loop-i-preserved c =
    let many = c.loop-i.invariant.0 in
    (simp length-set many, one_more signed32 c.args.s.now c.args.p c.loop-i.sample-items c.loop-i.i _ (omega (arith, many)) c.loop-i.invariant.1 (to_z-of_z w32 c.signed.result (record { sfits = c.signed.type_inv }) ∙ rw (c.signed.ensures, c.be_u32.ensures, c.saturating_add.ensures)))

pub returns : goal.returns
returns c =
    let many = c.loop-i.invariant.0 in
    (all_done signed32 c.args.s.now c.args.p c.loop-i.sample-items c.loop-i.i 16 (omega arith) (sym many) c.loop-i.invariant.1, many)
