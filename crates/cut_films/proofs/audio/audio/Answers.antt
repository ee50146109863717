use Rattle.std.proofs.Common.{refl, arith}
use Rattle.std.proofs.Math.ListN.{length-set}
use Rattle.cut_films.proofs.Runs.{none_yet, one_more}
use Rattle.cut_films.proofs.audio.audio.Goals as goal

pub loop-i-init : goal.loop-i-init
loop-i-init c = (refl, none_yet c.args.session)

pub loop-i-preserved : goal.loop-i-preserved
loop-i-preserved c =
    (simp length-set c.loop-i.invariant.0, one_more c.args.session c.loop-i.byte-items c.loop-i.i _ (omega (arith, c.loop-i.invariant.0)) c.loop-i.invariant.1 c.audio_byte.ensures)
