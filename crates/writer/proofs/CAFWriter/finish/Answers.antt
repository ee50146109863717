use Rattle.std.proofs.Common.{length, refl, ◌∙◌}
use Rattle.writer.proofs.Handing.{refused-number, done-number}
use Rattle.writer.proofs.Whole.{finish-refused, finish-buffer, finish-answer}
use Rattle.writer.proofs.CAFWriter.finish.Goals as goal

pub returns-in-Err : goal.returns-in-Err
returns-in-Err c =
    let a = c.args in
    let room = length a.buf.now in
    let given = c.finish_counted-counted.ensures in
    let n = refused-number a.self c.finish_counted-counted.result c.in-Err.refusal c.in-Err.is in
    (n.1 ∙ finish-refused a.self room _ given.0 n.0, finish-buffer a.self room a.buf.now _ given.1)

pub returns-in-Ok : goal.returns-in-Ok
returns-in-Ok c =
    let a = c.args in
    let room = length a.buf.now in
    let given = c.finish_counted-counted.ensures in
    let n = done-number a.self c.finish_counted-counted.result c.in-Ok.field-0 c.in-Ok.is in
    (finish-answer a.self room _ given.0 n.0 _ refl, finish-buffer a.self room a.buf.now _ given.1)
