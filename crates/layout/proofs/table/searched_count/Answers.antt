use mathlib.Core.Path.{ap}
use Rattle.layout.specs.declared.Row.{Row}
use Rattle.layout.proofs.table.searched_count.Goals as goal

pub returns : goal.returns
returns c = ap (λ (r : Row). r.count) c.searched_at-row.ensures
