use Rattle.std.proofs.Common.{arith, add-one}
use Rattle.overview.proofs.Blocks.{channel-put}
use Rattle.overview.proofs.pairs.put_channels.Goals as goal

pub loop-channel-preserved : goal.loop-channel-preserved
loop-channel-preserved c =
    let a = c.args in
    rw add-one
    (channel-put a.first a.track a.buf.now c.loop-channel.buf c.set_pair.new.buf a.from a.more a.at c.loop-channel.channel _ _
    (omega arith) c.requires.0 c.requires.1 c.loop-channel.invariant c.span_of-low.ensures.0 c.span_of-low.ensures.1 c.set_pair.ensures)
