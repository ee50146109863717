use Rattle.std.proofs.Common.{◌≡◌, ◌≤◌, length, take}
use Rattle.byte_order.specs.Splice.{splice}
use Rattle.pcm.specs.Packing.{packed}
use Rattle.pcm.proofs.packing.put_each.Given as goal

abbrev pub invariant-loop-i : goal.invariant-loop-i
invariant-loop-i l = (l.i ≤ length l.samples) × (l.buf ≡ splice l.initial.buf l.at (packed l.endianness (take l.i l.samples)))
