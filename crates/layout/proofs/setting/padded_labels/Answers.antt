use Rattle.std.proofs.Common.{ap, ◌∙◌}
use Rattle.byte_order.proofs.Budget.{take_min}
use Rattle.layout.specs.Setting.{label_places, padded}
use Rattle.layout.proofs.setting.padded_labels.Goals as goal

pub returns : goal.returns
returns c = c.zeros_after.ensures ∙ rw c.min.ensures (ap padded (take_min label_places c.args.labels.now))
