use Rattle.overview.specs.Groups.{channel_pairs}
use Rattle.byte_order.specs.Splice.{splice}
use lib.ListN.{length}
use Prim.Native.Nat.{◌-◌, ◌≤◌}
use mathlib.Core.Path.{◌≡◌}
use Rattle.overview.proofs.pairs.put_group.Given as goal

abbrev pub invariant-loop-last : goal.invariant-loop-last
invariant-loop-last l =
    (l.last ≤ l.more) × (length l.buf ≡ length l.initial.buf) × (l.buf ≡ splice l.initial.buf l.at (channel_pairs l.track l.initial.buf l.from l.last l.track.channels))

abbrev pub decreases-loop-last : goal.decreases-loop-last
decreases-loop-last l = l.more - l.last
