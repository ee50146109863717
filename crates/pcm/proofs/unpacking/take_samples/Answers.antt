use Rattle.std.proofs.Common.{rules, arith}
use Rattle.pcm.proofs.Unpacked.{last_one}
use Rattle.pcm.proofs.unpacking.take_samples.Goals as goal

pub returns : goal.returns
returns c =
    let a = c.args in
    last_one a.endianness a.bytes.now a.out.now _ _ c.in-Some.last (omega arith) (omega arith) c.take_wide.ensures (search rules)
