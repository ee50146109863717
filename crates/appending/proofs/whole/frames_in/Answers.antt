use Rattle.std.proofs.Common.{arith}
use Rattle.appending.proofs.Measured.{some-channels}
use Rattle.appending.proofs.whole.frames_in.Goals as goal

pub nonzero_div-result : goal.nonzero_div-result
nonzero_div-result c = omega (arith, some-channels c.args.format c.args.payload c.requires, c.channels_of.ensures.0)
