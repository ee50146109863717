use Rattle.std.proofs.Common.{◌≡◌}
use Rattle.byte_order.specs.Splice.{splice}
use Rattle.overview.specs.Height.{block_pairs}
use Rattle.overview.proofs.pairs.put_channels.Given as goal

abbrev pub invariant-loop-channel : goal.invariant-loop-channel
invariant-loop-channel l = l.buf ≡ splice l.initial.buf l.at (block_pairs l.first l.track l.initial.buf l.at l.from l.more l.channel)
