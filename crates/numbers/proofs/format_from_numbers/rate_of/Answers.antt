use Rattle.numbers.proofs.RatePatterns.{rate-or-nan}
use Rattle.numbers.proofs.format_from_numbers.rate_of.Goals as goal

pub returns : goal.returns
returns c = rw (c.unwrap_or.ensures, c.rate_from_bits.ensures) (rate-or-nan _)
