use Rattle.std.proofs.Common.{◌≡◌, ◌*◌, ◌/◌, rules, arith, length, take, zero-add}
use lib.Seq.{length-take-le, take_all}
use Rattle.answers.specs.Numbers.{done}
use Rattle.pcm.specs.Packing.{sample_size}
use Rattle.pcm.specs.Unpacking.{unpacked, unpack_number}
use Rattle.pcm.proofs.Unpacked.{length-unpacked}
use Rattle.pcm.proofs.unpacking.unpack.Goals as goal

pub returns-clause-stored : goal.returns-clause-stored
returns-clause-stored c =
    let a = c.args in
    let s = a.bytes.now in
    let n = length s / 3 in
    let accepted : unpack_number s (length a.out.now) ≡ done = search rules in
    let all : take (sample_size * n) s ≡ s = take_all (sample_size * n) s (omega arith) in
    let l : length (unpacked a.endianness s) ≡ n = rw all at (length-unpacked a.endianness n s (omega arith)) in
    rw (accepted, c.take_samples.ensures, length-take-le n a.out.now (omega arith), all, zero-add, l)
