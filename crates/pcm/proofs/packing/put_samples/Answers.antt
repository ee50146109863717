use Rattle.std.proofs.Common.{◌*◌, ◌/◌, arith, length, take, drop, sym}
use Rattle.std.proofs.lemmas.List.{take_rest, take-append-drop}
use lib.Seq.{length-take-le}
use lib.ListN.{length-drop}
use Rattle.pcm.proofs.Packed.{then-put}
use Rattle.pcm.proofs.packing.put_samples.Goals as goal

pub returns : goal.returns
returns c =
    let a = c.args in
    let xs = a.samples.now in
    let n = length xs / 8 * 8 in
    let l = length-drop n xs in
    then-put a.endianness (take n xs) (drop n xs) xs a.at n a.buf.now (length-take-le n xs (omega arith)) (omega arith) (sym (take-append-drop n xs)) c.put_eights.ensures (simp take_rest at c.put_each.ensures)
