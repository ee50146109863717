use Rattle.numbers.proofs.RatePatterns.{bits-or-nan}
use Rattle.numbers.proofs.format_to_numbers.rate_bits.Goals as goal

pub returns : goal.returns
returns c = rw (c.unwrap_or.ensures, c.rate_to_bits.ensures) (bits-or-nan c.args.rate)
