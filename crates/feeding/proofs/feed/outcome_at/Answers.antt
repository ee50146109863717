use Rattle.answers.specs.declared.refusal.Refusal.TheVariants.{BadWriter}
use Rattle.feeder.proofs.Facts.{in-refused, told}
use Rattle.feeding.proofs.feed.outcome_at.Goals as goal

pub returns-in-Refused : goal.returns-in-Refused
returns-in-Refused c = rw (c.in-Refused.is, c.unwrap_or.ensures, c.refusal_of.ensures) (told c.in-Refused.number BadWriter (in-refused c.args.r c.requires c.in-Refused.is))
