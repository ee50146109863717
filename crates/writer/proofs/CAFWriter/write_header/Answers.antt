use Rattle.std.proofs.Common.{ℕ, length, arith, sym, ◌∙◌, ap}
use Rattle.writer.specs.Record.{with_header}
use Rattle.writer.proofs.Handing.{refused-number, done-number}
use Rattle.writer.proofs.Whole.{header_refused, header-buffer, header-least, header-answer}
use Rattle.writer.proofs.CAFWriter.write_header.Goals as goal

pub returns-in-Err : goal.returns-in-Err
returns-in-Err c =
    let a = c.args in
    let room = length a.buf.now in
    let given = c.write_header_counted-counted.ensures in
    let n = refused-number a.self c.write_header_counted-counted.result c.in-Err.refusal c.in-Err.is in
    (n.1 ∙ header_refused a.self room _ given.0 n.0, header-buffer a.self room a.buf.now _ given.1)

pub overflow_sub-self : goal.overflow_sub-self
overflow_sub-self c =
    let a = c.args in
    let n = done-number a.self c.write_header_counted-counted.result c.in-Ok.done c.in-Ok.is in
    omega (arith, n.1, header-least a.self (length a.buf.now) _ c.write_header_counted-counted.ensures.0 n.0)

pub returns-in-Ok : goal.returns-in-Ok
returns-in-Ok c =
    let a = c.args in
    let room = length a.buf.now in
    let given = c.write_header_counted-counted.ensures in
    let n = done-number a.self c.write_header_counted-counted.result c.in-Ok.done c.in-Ok.is in
    (header-answer a.self room _ given.0 n.0 _ (ap (λ (k : ℕ). with_header a.self k) (sym n.1)), header-buffer a.self room a.buf.now _ given.1)
