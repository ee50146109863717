use Rattle.std.proofs.Common.{sym}
use Rattle.wave_head.proofs.MadeAnswer.{fit_so}
use Rattle.wave_head.proofs.made.head_for.Goals as goal

pub made-requires : goal.made-requires
made-requires c = fit_so c.args.w (sym c.if-can_be_made.ensures)
