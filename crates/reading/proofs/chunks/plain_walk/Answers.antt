use Rattle.std.proofs.Common.{arith, sym, ◌∙◌, inl, inr, ap}
use Rattle.reading.specs.Rules.{Plain}
use Rattle.reading.specs.Shapes.{step_of}
use Rattle.reading.proofs.Walk.{ahead_of, turn}
use Rattle.reading.proofs.PlainSteps.{as_plain}
use Rattle.reading.proofs.chunks.plain_walk.Goals as goal

pub loop-f-smaller-in-Format : goal.loop-f-smaller-in-Format
loop-f-smaller-in-Format c = omega (arith, ahead_of c.args.s.now Plain c.loop-f.p c.in-Format.ensures)

pub loop-f-preserved-in-Format : goal.loop-f-preserved-in-Format
loop-f-preserved-in-Format c =
    let s = c.args.s.now in
    let l = c.loop-f in
    let h = ahead_of s Plain l.p c.in-Format.ensures in
    record { counted = omega arith; within = omega arith; walked = turn s Plain l.p l.format l.chunks c.in-Format.ensures l.invariant.walked }

pub loop-f-smaller : goal.loop-f-smaller
loop-f-smaller c = omega (arith, ahead_of c.args.s.now Plain c.loop-f.p c.in-Skip.ensures)

pub loop-f-preserved : goal.loop-f-preserved
loop-f-preserved c =
    let s = c.args.s.now in
    let l = c.loop-f in
    let h = ahead_of s Plain l.p c.in-Skip.ensures in
    record { counted = omega arith; within = omega arith; walked = turn s Plain l.p l.format l.chunks c.in-Skip.ensures l.invariant.walked }

pub returns-in-Data : goal.returns-in-Data
returns-in-Data c =
    let l = c.loop-f in
    rw c.info_of-info.ensures (sym (turn c.args.s.now Plain l.p l.format l.chunks c.in-Data.ensures l.invariant.walked))

pub overflow_add-chunks-in-Refused : goal.overflow_add-chunks-in-Refused
overflow_add-chunks-in-Refused c = omega (arith, ahead_of c.args.s.now Plain c.loop-f.p c.in-Refused.ensures)

pub returns-in-Refused : goal.returns-in-Refused
returns-in-Refused c =
    let l = c.loop-f in
    rw c.new.ensures (sym (turn c.args.s.now Plain l.p l.format l.chunks c.in-Refused.ensures l.invariant.walked))

pub unreachable-requires : goal.unreachable-requires
unreachable-requires c =
    let s = c.args.s.now in
    let e = c.plain_step.ensures in
    elim c.in-Closed.is [ inl h ↦ as_plain s c.loop-f.p (sym (ap step_of h.3) ∙ e) | inr h ↦ as_plain s c.loop-f.p (sym (ap step_of h.2) ∙ e) ]
