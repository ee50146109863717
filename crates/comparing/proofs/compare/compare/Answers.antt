use Rattle.std.proofs.lemmas.Result.{err_from_is_err_and}
use Rattle.comparing.proofs.AnswerLaws.{first-refused, second-refused, both-read}
use Rattle.comparing.proofs.compare.compare.Goals as goal

pub returns-in_err-v : goal.returns-in_err-v
returns-in_err-v c =
    let a = c.args in
    let p = err_from_is_err_and c.from_residual.result c.from_residual.ensures.1 in
    rw (p.1, p.2) (first-refused a.one.now a.two.now a.counts.now _ c.in_err-v.ensures)

pub returns-in_err-w : goal.returns-in_err-w
returns-in_err-w c =
    let a = c.args in
    let p = err_from_is_err_and c.from_residual-in_err-w.result c.from_residual-in_err-w.ensures.1 in
    rw (p.1, p.2) (second-refused a.one.now a.two.now a.counts.now c.in_ok-v.v c.in_ok-v.ensures _ c.in_err-w.ensures)

pub returns : goal.returns
returns c =
    let a = c.args in
    both-read a.one.now a.two.now a.counts.now c.in_ok-v.v c.in_ok-v.ensures c.in_ok-w.w c.in_ok-w.ensures c.by_sides.ensures
