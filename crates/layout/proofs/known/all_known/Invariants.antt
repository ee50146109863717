use Prim.Native.Nat.{◌≤◌}
use mathlib.Core.Path.{◌≡◌}
use lib.ListN.{length, drop}
use Rattle.layout.specs.Known.{are_known}
use Rattle.layout.proofs.known.all_known.Given as goal

abbrev pub invariant-loop-label : goal.invariant-loop-label
invariant-loop-label l = (l.label-index ≤ length l.labels) × (are_known l.labels ≡ are_known (drop l.label-index l.labels))
