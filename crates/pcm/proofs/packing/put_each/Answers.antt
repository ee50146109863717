use Rattle.std.proofs.Common.{◌≡◌, rules, arith, get_or, pos}
use Rattle.pcm.specs.Sample.{low24, bytes24}
use Rattle.pcm.proofs.Packed.{one-put}
use Rattle.pcm.proofs.packing.put_each.Goals as goal

pub loop-i-preserved : goal.loop-i-preserved
loop-i-preserved c =
    let a = c.args in
    let i = c.loop-i.i in
    let b : c.sample_bytes-bytes.result ≡ bytes24 a.endianness (low24 (get_or a.samples.now i (pos 0))) = search rules in
    (omega arith, one-put a.endianness a.samples.now i a.at a.buf.now (omega arith) c.requires c.loop-i.invariant.1 b c.put_bytes.ensures)
