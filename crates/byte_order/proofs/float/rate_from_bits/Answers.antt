use borrow.Author.Tests.{lt-ltb, le-ltb}
use Rattle.byte_order.proofs.Nan.{nan-test, nan_pattern}
use Rattle.byte_order.proofs.float.rate_from_bits.Goals as goal

pub returns-then-bits-gt-INFINITY : goal.returns-then-bits-gt-INFINITY
returns-then-bits-gt-INFINITY c = rw (nan-test c.args.bits, lt-ltb _ _ c.if-bits-gt-INFINITY.true)

pub float_from_bits-result : goal.float_from_bits-result
float_from_bits-result c = rw (nan_pattern c.args.bits, le-ltb _ _ c.if-bits-gt-INFINITY.false) tt

pub returns : goal.returns
returns c = rw (nan-test c.args.bits, le-ltb _ _ c.if-bits-gt-INFINITY.false)
