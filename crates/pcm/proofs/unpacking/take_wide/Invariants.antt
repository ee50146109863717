use Rattle.std.proofs.Common.{◌≡◌, ◌*◌, ◌≤◌, ◌++◌, length, take, drop}
use Rattle.pcm.specs.Packing.{sample_size}
use Rattle.pcm.specs.Unpacking.{unpacked}
use Rattle.pcm.proofs.unpacking.take_wide.Given as goal

abbrev pub invariant-loop-i : goal.invariant-loop-i
invariant-loop-i l = (l.i ≤ length l.initial.out) × (l.out ≡ unpacked l.endianness (take (sample_size * l.i) l.bytes) ++ drop l.i l.initial.out)
