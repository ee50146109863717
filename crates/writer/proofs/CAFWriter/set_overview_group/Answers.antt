use Rattle.std.proofs.Common.{[], refl}
use Rattle.writer.specs.Record.{with_group}
use Rattle.writer.specs.Outcome.{stores}
use Rattle.writer.specs.Settings.{group_number, group_call}
use Rattle.writer.proofs.Handing.{refused-answer, done-answer}
use Rattle.writer.proofs.CAFWriter.set_overview_group.Goals as goal

pub returns-in-Err : goal.returns-in-Err
unfolding group_call
returns-in-Err c =
    let a = c.args in
    refused-answer a.self (group_number a.self) (stores 0 [] (with_group a.self a.group)) c.choosing.result c.choosing.ensures c.in-Err.refusal c.in-Err.is

pub returns-in-Ok : goal.returns-in-Ok
unfolding group_call
returns-in-Ok c =
    let a = c.args in
    done-answer a.self (group_number a.self) (stores 0 [] (with_group a.self a.group)) c.choosing.result c.choosing.ensures c.in-Ok.field-0 c.in-Ok.is refl refl
