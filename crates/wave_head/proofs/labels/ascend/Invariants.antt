use Rattle.std.proofs.Common.{◌≡◌, drop}
use Rattle.wave.specs.Mask.{ascends_from}
use Rattle.wave_head.proofs.labels.ascend.Given as goal

abbrev pub invariant-loop-label : goal.invariant-loop-label
invariant-loop-label l = ascends_from 0 l.labels ≡ ascends_from l.low (drop l.label-index l.labels)
