use Rattle.std.proofs.Common.{ℕ, length, arith, sym, ◌∙◌, ap}
use Rattle.writer.specs.Record.{with_data}
use Rattle.writer.proofs.Handing.{refused-number, done-number}
use Rattle.writer.proofs.Whole.{data-refused, data-buffer, data-fits, data-answer}
use Rattle.writer.proofs.CAFWriter.write_data.Goals as goal

pub returns-in-Err : goal.returns-in-Err
returns-in-Err c =
    let a = c.args in
    let room = length a.buf.now in
    let given = c.write_data_counted-counted.ensures in
    let n = refused-number a.self c.write_data_counted-counted.result c.in-Err.refusal c.in-Err.is in
    (n.1 ∙ data-refused a.self room a.«data».now _ given.0 n.0, data-buffer a.self room a.«data».now a.buf.now _ given.1)

pub overflow_add-self : goal.overflow_add-self
overflow_add-self c =
    let a = c.args in
    let n = done-number a.self c.write_data_counted-counted.result c.in-Ok.done c.in-Ok.is in
    omega (arith, n.1, (data-fits a.self (length a.buf.now) a.«data».now _ c.write_data_counted-counted.ensures.0 n.0).0)

pub overflow_add-self-in-Ok : goal.overflow_add-self-in-Ok
overflow_add-self-in-Ok c =
    let a = c.args in
    let n = done-number a.self c.write_data_counted-counted.result c.in-Ok.done c.in-Ok.is in
    omega (arith, n.1, (data-fits a.self (length a.buf.now) a.«data».now _ c.write_data_counted-counted.ensures.0 n.0).1)

pub returns-in-Ok : goal.returns-in-Ok
returns-in-Ok c =
    let a = c.args in
    let room = length a.buf.now in
    let given = c.write_data_counted-counted.ensures in
    let n = done-number a.self c.write_data_counted-counted.result c.in-Ok.done c.in-Ok.is in
    (data-answer a.self room a.«data».now _ given.0 n.0 _ (ap (λ (k : ℕ). with_data a.self k) (sym n.1)), data-buffer a.self room a.«data».now a.buf.now _ given.1)
