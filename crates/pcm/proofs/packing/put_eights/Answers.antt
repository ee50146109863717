use Rattle.std.proofs.Common.{◌≡◌, ◌+◌, ◌*◌, arith}
use Rattle.std.proofs.lemmas.List.{take_rest}
use Rattle.pcm.proofs.Packed.{more-put}
use Rattle.pcm.proofs.packing.put_eights.Goals as goal

pub loop-i-preserved : goal.loop-i-preserved
loop-i-preserved c =
    let a = c.args in
    let i = c.loop-i.i in
    let next : 8 * (i + 1) ≡ 8 * i + 8 = omega arith in
    rw next (more-put a.endianness a.samples.now (8 * i) 8 a.at a.buf.now (omega arith) (omega arith) c.loop-i.invariant (simp take_rest at c.put_eight.ensures))
