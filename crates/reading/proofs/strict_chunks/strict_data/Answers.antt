use Rattle.std.proofs.Common.{arith, ◌+◌}
use Rattle.std.proofs.lemmas.Result.{err_from_is_err_and}
use borrow.Author.Tests.{lt-ltb, le-ltb, eq-eqb, ne_eqb}
use Rattle.answers.specs.declared.refusal.Refusal.TheVariants.{BadSize, CutShort, DataPastEnd}
use Rattle.reading.specs.Rules.{strict_data}
use Rattle.reading.proofs.Passing.{data-refused, data-open, data-closed, tail-refused}
use Rattle.reading.proofs.strict_chunks.strict_data.Goals as goal

pub returns-then-is_bad_data_size : goal.returns-then-is_bad_data_size
unfolding strict_data
returns-then-is_bad_data_size c =
    let a = c.args in
    rw c.new.ensures (data-refused a.s.now a.p a.met BadSize (rw (← c.size_at-size.ensures, ← c.is_bad_data_size.ensures, c.if-is_bad_data_size.true)))

pub returns-then-left-lt-EDIT_COUNT : goal.returns-then-left-lt-EDIT_COUNT
unfolding strict_data
returns-then-left-lt-EDIT_COUNT c =
    let a = c.args in
    rw c.new-then-left-lt-EDIT_COUNT.ensures (data-refused a.s.now a.p a.met CutShort (rw (← c.size_at-size.ensures, ← c.is_bad_data_size.ensures, c.if-is_bad_data_size.false, lt-ltb _ _ c.if-left-lt-EDIT_COUNT.true)))

pub returns-then-size : goal.returns-then-size
unfolding strict_data
returns-then-size c =
    let a = c.args in
    data-open a.s.now a.p a.met c.size_at-size.result (rw (← c.size_at-size.ensures, ← c.is_bad_data_size.ensures, c.if-is_bad_data_size.false, le-ltb _ _ c.if-left-lt-EDIT_COUNT.false, eq-eqb _ _ c.if-size.true)) c.size_at-size.ensures (omega arith)

pub returns-then-left-size : goal.returns-then-left-size
unfolding strict_data
returns-then-left-size c =
    let a = c.args in
    rw c.new-then-left-size.ensures (data-refused a.s.now a.p a.met DataPastEnd (rw (← c.size_at-size.ensures, ← c.is_bad_data_size.ensures, c.if-is_bad_data_size.false, le-ltb _ _ c.if-left-lt-EDIT_COUNT.false, ne_eqb _ _ c.if-size.false, lt-ltb _ _ c.if-left-size.true)))

pub returns-in_err-chunks : goal.returns-in_err-chunks
unfolding strict_data
returns-in_err-chunks c =
    let a = c.args in
    let p = err_from_is_err_and c.from_residual.result c.from_residual.ensures.1 in
    rw (p.1, p.2) (tail-refused a.s.now a.p a.met (a.p + 12 + c.size_at-size.result)
    (rw (← c.size_at-size.ensures, ← c.is_bad_data_size.ensures, c.if-is_bad_data_size.false, le-ltb _ _ c.if-left-lt-EDIT_COUNT.false, ne_eqb _ _ c.if-size.false, le-ltb _ _ c.if-left-size.false))
    _ c.in_err-chunks.ensures)

pub returns : goal.returns
unfolding strict_data
returns c =
    let a = c.args in
    data-closed a.s.now a.p a.met (a.p + 12 + c.size_at-size.result)
    (rw (← c.size_at-size.ensures, ← c.is_bad_data_size.ensures, c.if-is_bad_data_size.false, le-ltb _ _ c.if-left-lt-EDIT_COUNT.false, ne_eqb _ _ c.if-size.false, le-ltb _ _ c.if-left-size.false))
    c.size_at-size.result c.in_ok-chunks.chunks c.size_at-size.ensures (omega arith) c.in_ok-chunks.ensures
