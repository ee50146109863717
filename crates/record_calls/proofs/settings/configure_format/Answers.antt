use Rattle.record_calls.proofs.Calls.{none-held, some-held, none-set, record-set}
use Rattle.writer.specs.Settings.{configure_call}
use Rattle.writer.specs.declared.CAFWriter.{CAFWriter}
use Rattle.std.proofs.Common.{sym, ◌∙◌}
use Rattle.record_calls.proofs.settings.configure_format.Goals as goal

pub returns-in_default : goal.returns-in_default
returns-in_default c = rw c.number.ensures (none-set c.args.held.now _ (none-held c.args.held.now (sym c.record_in.ensures ∙ c.in_default.is)))

pub returns : goal.returns
returns c =
    let a = c.args in
    let k = some-held a.held.now (sym c.record_in.ensures ∙ c.in-Some.is) in
    let p = rw k.1 at c.configure_audio_format.ensures in
    record-set a.held.now (λ (w : CAFWriter). configure_call w a.rate a.channels a.bits a.labels.now) k.0 p c.keep.ensures.0 c.keep.ensures.1
