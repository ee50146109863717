use Rattle.std.proofs.Common.{◌≡◌, [], refl, ap, ◌∙◌}
use Rattle.std.proofs.lemmas.Result.{IfOk-at_ok}
use Rattle.format.specs.Setting.{pcm_format, format_number}
use Rattle.format.specs.declared.AudioFormat.{AudioFormat}
use Rattle.format.specs.declared.PCMDataType.TheVariants.{SignedInteger}
use Rattle.format.specs.declared.Endianness.TheVariants.{BigEndian}
use Rattle.layout.specs.Setting.{labels_number}
use Rattle.writer.specs.Record.{with_format}
use Rattle.writer.specs.Outcome.{stores}
use Rattle.writer.specs.Settings.{setting_number, first, with_labels, configure_call}
use Rattle.writer.specs.declared.CAFWriter.{CAFWriter}
use Rattle.writer.proofs.Handing.{refused-answer, done-answer}
use Rattle.writer.proofs.CAFWriter.configure_audio_format.Goals as goal

pub returns-in-Err : goal.returns-in-Err
unfolding configure_call
returns-in-Err c =
    let a = c.args in
    let ls = a.labels.now in
    let n = setting_number a.self (first (format_number a.sample_rate a.channels a.bits_per_channel BigEndian) (labels_number ls a.channels)) in
    let after = with_labels (with_format a.self (pcm_format a.sample_rate a.channels a.bits_per_channel SignedInteger BigEndian) BigEndian) ls a.channels in
    refused-answer a.self n (stores 0 [] after) c.configured-configured.result c.configured-configured.ensures.number c.in-Err.refusal c.in-Err.is

pub returns-in-Ok : goal.returns-in-Ok
unfolding configure_call
returns-in-Ok c =
    let a = c.args in
    let ls = a.labels.now in
    let n = setting_number a.self (first (format_number a.sample_rate a.channels a.bits_per_channel BigEndian) (labels_number ls a.channels)) in
    let f = pcm_format a.sample_rate a.channels a.bits_per_channel SignedInteger BigEndian in
    let is = IfOk-at_ok (λ (x : AudioFormat). x ≡ f) c.in-Ok.is c.configured-configured.ensures.format in
    let changed = c.with_format-self.ensures ∙ ap (λ (x : AudioFormat). with_format a.self x BigEndian) is in
    done-answer a.self n (stores 0 [] (with_labels (with_format a.self f BigEndian) ls a.channels)) c.configured-configured.result c.configured-configured.ensures.number c.in-Ok.format c.in-Ok.is
    (c.with_labels-self.ensures ∙ ap (λ (x : CAFWriter). with_labels x ls a.channels) changed) refl
