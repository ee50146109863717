use Rattle.feeder.proofs.Facts.{sound-tests, fresh-sound}
use Rattle.list.proofs.readings.Readings.new.Goals as goal

pub invariant_of-result : goal.invariant_of-result
invariant_of-result c = record { made_by_calls = rw c.fresh.ensures (sound-tests _ fresh-sound) }
