use Rattle.std.proofs.Common.{arith}
use Rattle.std.proofs.lemmas.List.{take_rest}
use Rattle.format.specs.declared.Endianness.TheVariants.{BigEndian, LittleEndian}
use Rattle.pcm.proofs.Packed.{more-put}
use Rattle.pcm.proofs.packing.put_eight.Goals as goal

pub returns-in-BigEndian : goal.returns-in-BigEndian
returns-in-BigEndian c =
    let a = c.args in
    rw c.in-BigEndian.is (more-put BigEndian a.samples.now 4 4 a.at a.buf.now (omega arith) (omega arith) c.put_four.ensures (simp take_rest at c.put_four-in-BigEndian.ensures))

pub returns-in-LittleEndian : goal.returns-in-LittleEndian
returns-in-LittleEndian c =
    let a = c.args in
    rw c.in-LittleEndian.is (more-put LittleEndian a.samples.now 4 4 a.at a.buf.now (omega arith) (omega arith) c.put_four-in-LittleEndian.ensures (simp take_rest at c.put_four-in-LittleEndian-2.ensures))
