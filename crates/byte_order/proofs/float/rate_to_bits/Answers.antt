use Rattle.byte_order.proofs.float.rate_to_bits.Goals as goal

pub returns-then-is_not_a_number : goal.returns-then-is_not_a_number
returns-then-is_not_a_number c = rw (← c.is_not_a_number.ensures, c.if-is_not_a_number.true)

pub float_to_bits-result : goal.float_to_bits-result
float_to_bits-result c = rw (← c.is_not_a_number.ensures, c.if-is_not_a_number.false) tt

pub returns : goal.returns
returns c = rw (← c.is_not_a_number.ensures, c.if-is_not_a_number.false)
