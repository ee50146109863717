use Rattle.std.proofs.Common.{refl}
use Rattle.std.proofs.lemmas.Result.{err_from_is_err_and}
use Rattle.reading.proofs.Passing.{refused, rest-refused, walk-data}
use Rattle.reading.proofs.strict_chunks.strict_walk.Goals as goal

pub returns-in_err-n : goal.returns-in_err-n
returns-in_err-n c =
    let a = c.args in
    let p = err_from_is_err_and c.from_residual.result c.from_residual.ensures.1 in
    rw (p.1, p.2) (refused a.s.now a.from a.met (λ f. refl) c.in_err-n.ensures)

pub returns-in-Rest : goal.returns-in-Rest
returns-in-Rest c =
    let a = c.args in
    let r = c.in-Rest in
    let stopped = rw r.is at c.in_ok-n.ensures in
    rw c.new.ensures (refused a.s.now a.from a.met (λ f. rw c.rest_refusal.ensures (rest-refused a.s.now r.n r.chunks f)) stopped)

pub returns-in-Data : goal.returns-in-Data
returns-in-Data c =
    let a = c.args in
    let d = c.in-Data in
    let stopped = rw d.is at c.in_ok-n.ensures in
    walk-data a.s.now a.from a.met d.p d.chunks c.strict_data.result stopped c.strict_data.ensures
