use Rattle.std.proofs.Common.{◌≡◌, ◌+◌, drop}
use Rattle.wave.specs.Mask.{mask_of}
use Rattle.wave_head.proofs.labels.mask_of.Given as goal

abbrev pub invariant-loop-label : goal.invariant-loop-label
invariant-loop-label l = l.mask + mask_of (drop l.label-index l.labels) ≡ mask_of l.labels
