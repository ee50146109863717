use mathlib.Core.Path.{sym, ◌∙◌, ap}
use Rattle.feeder.specs.Record.{sound}
use Rattle.feeding.proofs.Call.{still-sound}
use Rattle.feeding.proofs.feed.feed.Goals as goal

pub outcome_at-requires : goal.outcome_at-requires
outcome_at-requires c = let a = c.args in ap sound c.feed_bytes-feeder.ensures ∙ still-sound a.r a.block.now (sym c.if-not-is_sound.ensures)
