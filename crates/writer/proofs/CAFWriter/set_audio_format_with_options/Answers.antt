use Rattle.std.proofs.Common.{◌≡◌, [], refl, ap, ◌∙◌}
use Rattle.std.proofs.lemmas.Result.{IfOk-at_ok}
use Rattle.format.specs.Setting.{pcm_format, format_number}
use Rattle.format.specs.declared.AudioFormat.{AudioFormat}
use Rattle.writer.specs.Record.{with_format}
use Rattle.writer.specs.Outcome.{stores}
use Rattle.writer.specs.Settings.{setting_number, format_call}
use Rattle.writer.proofs.Handing.{refused-answer, done-answer}
use Rattle.writer.proofs.CAFWriter.set_audio_format_with_options.Goals as goal

pub returns-in-Err : goal.returns-in-Err
unfolding format_call
returns-in-Err c =
    let a = c.args in
    let f = pcm_format a.sample_rate a.channels a.bits_per_channel a.data_type a.endianness in
    refused-answer a.self (setting_number a.self (format_number a.sample_rate a.channels a.bits_per_channel a.endianness)) (stores 0 [] (with_format a.self f a.endianness)) c.formatted-formatted.result c.formatted-formatted.ensures.number c.in-Err.refusal c.in-Err.is

pub returns-in-Ok : goal.returns-in-Ok
unfolding format_call
returns-in-Ok c =
    let a = c.args in
    let f = pcm_format a.sample_rate a.channels a.bits_per_channel a.data_type a.endianness in
    let is = IfOk-at_ok (λ (x : AudioFormat). x ≡ f) c.in-Ok.is c.formatted-formatted.ensures.format in
    done-answer a.self (setting_number a.self (format_number a.sample_rate a.channels a.bits_per_channel a.endianness)) (stores 0 [] (with_format a.self f a.endianness)) c.formatted-formatted.result c.formatted-formatted.ensures.number c.in-Ok.format c.in-Ok.is (ap (λ (x : AudioFormat). with_format a.self x a.endianness) is) refl
