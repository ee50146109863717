use Rattle.std.proofs.Common.{sym, arith}
use Rattle.chan_reading.proofs.FindOn.{found_within}
use Rattle.conversion.proofs.plan.file_head.Goals as goal

pub overflow_add-body : goal.overflow_add-body
overflow_add-body c = let b = c.in-Some.body in omega (arith, found_within c.args.caf.now b (sym c.in-Some.ensures))

pub slice_bounds-head_with-end : goal.slice_bounds-head_with-end
slice_bounds-head_with-end c = let b = c.in-Some.body in omega (arith, found_within c.args.caf.now b (sym c.in-Some.ensures))
