use Rattle.feeding.proofs.Turns.{bytes_past}
use Rattle.feeder.proofs.Facts.{sound-facts}
use Rattle.feeding.specs.Turns.{past_limit}
use mathlib.Core.Path.{sym, ◌∙◌, ap}
use Rattle.feeding.proofs.feed.feed_bytes.Goals as goal

pub returns-else-block-room : goal.returns-else-block-room
returns-else-block-room c = let a = c.args in c.past_limit.ensures ∙ ap past_limit c.in_turns-else-block-room.ensures ∙ sym (bytes_past a.r a.block.now (sound-facts a.r c.requires) c.if-block-room.false)
