use Rattle.byte_order.proofs.Nan.{ne-self}
use Rattle.byte_order.proofs.float.is_not_a_number.Goals as goal

pub returns : goal.returns
returns c = ne-self c.args.rate
