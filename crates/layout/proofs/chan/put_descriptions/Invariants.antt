use mathlib.Core.Path.{◌≡◌}
use Prim.Native.Nat.{◌≤◌}
use lib.ListN.{length, take}
use Rattle.byte_order.specs.Splice.{splice}
use Rattle.layout.specs.Chan.{descriptions}
use Rattle.layout.proofs.chan.put_descriptions.Given as goal

abbrev pub invariant-loop-i : goal.invariant-loop-i
invariant-loop-i l =
    (l.i ≤ length l.labels) × (length l.buf ≡ length l.initial.buf) × (l.buf ≡ splice l.initial.buf l.at (descriptions (take l.i l.labels)))
