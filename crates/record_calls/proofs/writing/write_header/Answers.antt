use Rattle.record_calls.proofs.Calls.{none-held, some-held, none-called}
use Rattle.record_calls.proofs.Headed.{header-not-done, head-allowed, header-done-called}
use Rattle.std.proofs.Common.{refl, sym, ◌∙◌}
use Rattle.numbers.proofs.Refused.{refused-some}
use Rattle.record_calls.proofs.writing.write_header.Goals as goal

pub returns-in_default : goal.returns-in_default
returns-in_default c =
    let a = c.args in
    rw c.number.ensures (none-called a.held.now _ a.buf.now (none-held a.held.now (sym c.record_in.ensures ∙ c.in_default.is)))

pub returns-in-Err : goal.returns-in-Err
returns-in-Err c =
    let a = c.args in
    let k = some-held a.held.now (sym c.record_in.ensures ∙ c.in-Some.is) in
    let p = rw k.1 at c.in-Err.ensures in
    rw c.number-in-Err.ensures (header-not-done a.held.now a.buf.now k.0 _ p.0 (refused-some c.in-Err.refusal) p.1)

pub head-requires : goal.head-requires
head-requires c =
    let a = c.args in
    let k = some-held a.held.now (sym c.record_in.ensures ∙ c.in-Some.is) in
    let p = rw k.1 at c.in-Ok.ensures in
    head-allowed a.held.now a.buf.now k.0 _ p.0 refl

pub returns-in-Ok : goal.returns-in-Ok
returns-in-Ok c =
    let a = c.args in
    let k = some-held a.held.now (sym c.record_in.ensures ∙ c.in-Some.is) in
    let p = rw k.1 at c.in-Ok.ensures in
    header-done-called a.held.now a.buf.now k.0 _ p.0 refl c.head.ensures p.1
