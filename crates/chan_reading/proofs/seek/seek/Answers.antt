use Rattle.std.proofs.Common.{arith, ◌∙◌, ◌-◌, length, drop, length-drop}
use lib.Seq.{take_all}
use Rattle.chan_reading.proofs.Leaps.{leaps}
use Rattle.chan_reading.proofs.seek.seek.Goals as goal

pub loop-rest-preserved : goal.loop-rest-preserved
loop-rest-preserved c =
    let rest = c.loop-rest.rest.now in
    let n = c.leap-n.result in
    let leapt = leaps c.loop-rest.last rest n c.leap-n.ensures c.if-n-eq0.false in
    c.loop-rest.invariant ∙ leapt.1 ∙ rw (c.leapt-last.ensures, take_all (length rest - n) (drop n rest) (omega (arith, length-drop n rest)))
