use Rattle.std.proofs.Common.{refl}
use Rattle.std.proofs.lemmas.Result.{err_from_is_err_and}
use Rattle.reading.proofs.Passing.{after-data, tail-cut}
use Rattle.reading.proofs.strict_chunks.tail.Goals as goal

pub returns-in_err-chunks : goal.returns-in_err-chunks
returns-in_err-chunks c =
    let a = c.args in
    let p = err_from_is_err_and c.from_residual.result c.from_residual.ensures.1 in
    rw (p.1, p.2) (after-data a.s.now a.from a.met (λ size start f. refl) c.in_err-chunks.ensures)

pub returns-in-Rest-eq0-default : goal.returns-in-Rest-eq0-default
returns-in-Rest-eq0-default c =
    let a = c.args in
    let r = c.in-Rest-eq0-default in
    after-data a.s.now a.from a.met (λ size start f. rw r.field-0-test) (rw r.is at c.in_ok-chunks.ensures)

pub returns-in-Rest : goal.returns-in-Rest
returns-in-Rest c =
    let a = c.args in
    let r = c.in-Rest in
    let stopped = rw r.is at c.in_ok-chunks.ensures in
    rw c.new.ensures (after-data a.s.now a.from a.met (λ size start f. tail-cut a.s.now a.from a.met r.field-0 r.chunks size start f r.field-0-test.1) stopped)

pub returns-in-Data : goal.returns-in-Data
returns-in-Data c =
    let a = c.args in
    let stopped = rw c.in-Data.is at c.in_ok-chunks.ensures in
    rw c.new-in-Data.ensures (after-data a.s.now a.from a.met (λ size start f. refl) stopped)
