use Rattle.std.proofs.Common.{[], refl}
use Rattle.layout.specs.Setting.{labels_number}
use Rattle.writer.specs.Outcome.{stores}
use Rattle.writer.specs.Settings.{setting_number, with_labels, labels_call}
use Rattle.writer.proofs.Handing.{refused-answer, done-answer}
use Rattle.writer.proofs.CAFWriter.set_channel_layout_for_labels.Goals as goal

pub returns-in-Err : goal.returns-in-Err
unfolding labels_call
returns-in-Err c =
    let a = c.args in
    let ls = a.labels.now in
    refused-answer a.self (setting_number a.self (labels_number ls a.channels)) (stores 0 [] (with_labels a.self ls a.channels)) c.may_be_labelled.result c.may_be_labelled.ensures.number c.in-Err.refusal c.in-Err.is

pub returns-in-Ok : goal.returns-in-Ok
unfolding labels_call
returns-in-Ok c =
    let a = c.args in
    let ls = a.labels.now in
    done-answer a.self (setting_number a.self (labels_number ls a.channels)) (stores 0 [] (with_labels a.self ls a.channels)) c.may_be_labelled.result c.may_be_labelled.ensures.number c.in-Ok.field-0 c.in-Ok.is c.with_labels-self.ensures refl
