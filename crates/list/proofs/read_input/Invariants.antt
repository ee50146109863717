use Prim.Native.Nat.{◌-◌}
use Rattle.answers.specs.Numbers.{file_max}
use Rattle.list.proofs.read_input.Given as goal

abbrev pub decreases-loop-source : goal.decreases-loop-source
decreases-loop-source g l = file_max - l.readings.feeder.total
