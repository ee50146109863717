use Rattle.std.proofs.Common.{ℕ, length, arith, sym, ◌∙◌, ap}
use Rattle.writer.specs.Record.{with_data}
use Rattle.writer.proofs.Handing.{refused-number, done-number}
use Rattle.writer.proofs.Whole.{samples-refused, samples-buffer, samples-fits, samples-answer}
use Rattle.writer.proofs.CAFWriter.write_pcm_24bit_as_packed.Goals as goal

pub returns-in-Err : goal.returns-in-Err
returns-in-Err c =
    let a = c.args in
    let room = length a.buf.now in
    let given = c.write_pcm_24bit_as_packed_counted-counted.ensures in
    let n = refused-number a.self c.write_pcm_24bit_as_packed_counted-counted.result c.in-Err.refusal c.in-Err.is in
    (n.1 ∙ samples-refused a.self room a.samples.now _ given.0 n.0, samples-buffer a.self room a.samples.now a.buf.now _ given.1)

pub overflow_add-self : goal.overflow_add-self
overflow_add-self c =
    let a = c.args in
    let n = done-number a.self c.write_pcm_24bit_as_packed_counted-counted.result c.in-Ok.done c.in-Ok.is in
    omega (arith, n.1, (samples-fits a.self (length a.buf.now) a.samples.now _ c.write_pcm_24bit_as_packed_counted-counted.ensures.0 n.0).0)

pub overflow_add-self-in-Ok : goal.overflow_add-self-in-Ok
overflow_add-self-in-Ok c =
    let a = c.args in
    let n = done-number a.self c.write_pcm_24bit_as_packed_counted-counted.result c.in-Ok.done c.in-Ok.is in
    omega (arith, n.1, (samples-fits a.self (length a.buf.now) a.samples.now _ c.write_pcm_24bit_as_packed_counted-counted.ensures.0 n.0).1)

pub returns-in-Ok : goal.returns-in-Ok
returns-in-Ok c =
    let a = c.args in
    let room = length a.buf.now in
    let given = c.write_pcm_24bit_as_packed_counted-counted.ensures in
    let n = done-number a.self c.write_pcm_24bit_as_packed_counted-counted.result c.in-Ok.done c.in-Ok.is in
    (samples-answer a.self room a.samples.now _ given.0 n.0 _ (ap (λ (k : ℕ). with_data a.self k) (sym n.1)), samples-buffer a.self room a.samples.now a.buf.now _ given.1)
