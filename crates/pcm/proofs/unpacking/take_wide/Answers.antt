use Rattle.std.proofs.Common.{◌≡◌, ◌*◌, rules, arith, add-one, w32, to_z, of_z}
use Rattle.pcm.specs.Packing.{sample_size}
use Rattle.pcm.proofs.Unpacked.{sample_at, sample-within, one_more}
use Rattle.pcm.proofs.unpacking.take_wide.Goals as goal

pub loop-i-preserved : goal.loop-i-preserved
loop-i-preserved c =
    let a = c.args in
    let i = c.loop-i.i in
    let x : to_z w32 (of_z w32 c.sample_of.result) ≡ sample_at a.endianness a.bytes.now (sample_size * i) = search (rules, sample-within a.endianness a.bytes.now (sample_size * i), c.sample_of.ensures, c.word_at.ensures) in
    (omega arith, rw (add-one, c.loop-i.invariant.1) (one_more a.endianness a.bytes.now i a.out.now _ x (omega arith) (omega arith)))
