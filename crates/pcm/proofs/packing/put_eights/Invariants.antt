use Rattle.std.proofs.Common.{◌≡◌, ◌*◌, take}
use Rattle.byte_order.specs.Splice.{splice}
use Rattle.pcm.specs.Packing.{packed}
use Rattle.pcm.proofs.packing.put_eights.Given as goal

abbrev pub invariant-loop-i : goal.invariant-loop-i
invariant-loop-i l = l.buf ≡ splice l.initial.buf l.at (packed l.endianness (take (8 * l.i) l.samples))
