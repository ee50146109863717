use Rattle.std.proofs.Common.{◌≡◌, ◌+◌, ◌*◌, ◌/◌, ◌%◌, rules, arith}
use Rattle.pcm.specs.Packing.{sample_size}
use Rattle.pcm.proofs.Packed.{part-put, take-packed}
use Rattle.pcm.proofs.packing.put_first.Goals as goal

pub returns-then-r-gt0 : goal.returns-then-r-gt0
returns-then-r-gt0 c =
    let a = c.args in
    let k = a.count / sample_size in
    let r = a.count % sample_size in
    let all : a.count ≡ sample_size * k + r = omega arith in
    rw all (part-put a.endianness a.samples.now k r a.at a.buf.now {buf = c.put_samples.new.buf} (omega arith) (omega arith) (omega arith) (search rules) (search rules))

pub returns-else-r-gt0 : goal.returns-else-r-gt0
returns-else-r-gt0 c =
    let a = c.args in
    let k = a.count / sample_size in
    let all : a.count ≡ sample_size * k = omega arith in
    rw (all, take-packed) (search rules)
