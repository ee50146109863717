use Rattle.std.proofs.Common.{arith}
use Rattle.std.proofs.lemmas.Grind.{common_steps}
use Rattle.std.proofs.lemmas.Result.{err_from_is_err_and}
use Rattle.wave_numbers.proofs.heads.put_plan.Goals as goal

pub returns-in_err-head : goal.returns-in_err-head
returns-in_err-head c =
    let p = err_from_is_err_and c.from_residual-in_err-head.result c.from_residual-in_err-head.ensures.1 in
    rw (p.1, p.2) (record { number = grind (arith, common_steps); stored = grind (arith, common_steps); told = grind (arith, common_steps) })

pub returns-in_err-put_head : goal.returns-in_err-put_head
returns-in_err-put_head c =
    let p = err_from_is_err_and c.from_residual-in_err-put_head.result c.from_residual-in_err-put_head.ensures.1 in
    rw (p.1, p.2) (record { number = grind (arith, common_steps); stored = grind (arith, common_steps); told = grind (arith, common_steps) })
