use Rattle.feeder_numbers.proofs.Feeders.{feeder-is}
use Rattle.feeder_numbers.proofs.feeder_to_numbers.feeder_numbers.Goals as goal

pub returns : goal.returns
returns c = feeder-is c.args.r _ _ _ _ _ _ _ _ _ c.phase_kind.ensures c.phase_format.ensures c.phase_number.ensures c.phase_size.ensures c.phase_start.ensures c.be_u64.ensures c.be_u64-2.ensures c.be_u64-3.ensures c.be_u64-4.ensures
