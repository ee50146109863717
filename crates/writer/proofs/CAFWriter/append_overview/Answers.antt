use Rattle.std.proofs.Common.{length, refl}
use Rattle.writer.proofs.Tests.{refusal-not_done}
use Rattle.writer.proofs.Appending.{overview-number, overview-refused, overview-done}
use Rattle.writer.proofs.CAFWriter.append_overview.Goals as goal

pub returns-in-Err : goal.returns-in-Err
returns-in-Err c =
    let a = c.args in
    let given = rw c.in-Err.is at c.append-appended.ensures in
    overview-refused a.self a.buf.now (overview-number a.self (length a.buf.now) c.is_sound-sound.ensures) given (refusal-not_done _)

pub returns-in-Ok : goal.returns-in-Ok
returns-in-Ok c =
    let a = c.args in
    let given = rw c.in-Ok.is at c.append-appended.ensures in
    overview-done a.self a.buf.now (overview-number a.self (length a.buf.now) c.is_sound-sound.ensures) given refl _ refl
