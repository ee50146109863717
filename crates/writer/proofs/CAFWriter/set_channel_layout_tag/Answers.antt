use Rattle.std.proofs.Common.{[], refl}
use Rattle.layout.specs.Setting.{tag_number}
use Rattle.layout.specs.declared.ChannelLayout.TheVariants.{Tagged}
use Rattle.writer.specs.Record.{with_layout}
use Rattle.writer.specs.Outcome.{stores}
use Rattle.writer.specs.Settings.{setting_number, tag_call}
use Rattle.writer.proofs.Handing.{refused-answer, done-answer}
use Rattle.writer.proofs.CAFWriter.set_channel_layout_tag.Goals as goal

pub returns-in-Err : goal.returns-in-Err
unfolding tag_call
returns-in-Err c =
    let a = c.args in
    refused-answer a.self (setting_number a.self (tag_number a.tag)) (stores 0 [] (with_layout a.self (Tagged a.tag) [])) c.may_be_tagged.result c.may_be_tagged.ensures c.in-Err.refusal c.in-Err.is

pub returns-in-Ok : goal.returns-in-Ok
unfolding tag_call
returns-in-Ok c =
    let a = c.args in
    done-answer a.self (setting_number a.self (tag_number a.tag)) (stores 0 [] (with_layout a.self (Tagged a.tag) [])) c.may_be_tagged.result c.may_be_tagged.ensures c.in-Ok.field-0 c.in-Ok.is c.with_layout-self.ensures refl
