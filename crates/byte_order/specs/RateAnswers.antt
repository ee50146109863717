-- The answers of the two rate functions: a not-a-number is refused, both as bits and as a rate.
use Rattle.std.specs.Prelude.{ℕ, cond, Float, Option, Some, None}
use Rattle.byte_order.specs.Rate.{rate_of, bits_of_rate, not_aNumber}

abbrev pub rate_from : ℕ → Option Float
rate_from n = cond (not_aNumber (rate_of n)) None (Some (rate_of n))

abbrev pub bits_from : Float → Option ℕ
bits_from x = cond (not_aNumber x) None (Some (bits_of_rate x))
