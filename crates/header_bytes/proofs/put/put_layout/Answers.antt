use Rattle.std.proofs.Common.{rules, sym}
use Rattle.byte_order.proofs.Laws.{splice-nil}
use Rattle.header_bytes.specs.Put.{layout_place}
use Rattle.header_bytes.proofs.put.put_layout.Goals as goal

pub returns-in-NoLayout : goal.returns-in-NoLayout
returns-in-NoLayout c = rw c.in-NoLayout.is (search rules, sym (splice-nil c.args.out.now layout_place))
