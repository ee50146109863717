use Rattle.feeding.proofs.Forward.{pass-forward}
use Rattle.list.proofs.readings.Readings.pass.Goals as goal

pub invariant_of-self : goal.invariant_of-self
invariant_of-self c = let r = c.args.self.now in record { made_by_calls = (pass-forward r.feeder c.args.n _ r.made_by_calls c.pass.ensures.feeder).0 }

pub returns : goal.returns
returns c = let r = c.args.self.now in (pass-forward r.feeder c.args.n _ r.made_by_calls c.pass.ensures.feeder).1
