use Rattle.std.proofs.Common.{refl, arith}
use Rattle.cut_films.specs.Digest.{weighed}
use Rattle.cut_films.proofs.Weighed.{one_more, all_done}
use Rattle.cut_films.proofs.digest.digest.Goals as goal

pub loop-byte-init : goal.loop-byte-init
unfolding weighed
loop-byte-init c = refl

pub loop-byte-preserved : goal.loop-byte-preserved
loop-byte-preserved c = rw c.from.ensures (one_more c.args.file.now c.loop-byte.byte-index c.loop-byte.d (omega arith) c.loop-byte.invariant)

pub returns : goal.returns
returns c = all_done c.args.file.now c.loop-byte.byte-index c.loop-byte.d (omega arith) c.loop-byte.invariant
