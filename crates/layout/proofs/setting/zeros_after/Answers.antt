use Rattle.layout.proofs.Padding.{drop-zeros}
use Rattle.layout.proofs.setting.zeros_after.Goals as goal

pub returns : goal.returns
returns c = rw (c.copy_from_slice.ensures.after, drop-zeros)
