use Rattle.std.proofs.Common.{Ok, Err, refl, arith}
use Rattle.std.proofs.lemmas.Result.{err_from_is_err_and}
use Rattle.writer.specs.Shapes.{resumed_of}
use Rattle.writer.proofs.Tests.{refusal-not_done}
use Rattle.writer.proofs.Reopening.{refused-whole, done-whole}
use Rattle.writer.proofs.CAFWriter.from_existing_file.Goals as goal

pub returns-in_err-found : goal.returns-in_err-found
returns-in_err-found c =
    let a = c.args in
    let p = err_from_is_err_and c.from_residual.result c.from_residual.ensures.1 in
    rw (p.1, p.2) (refused-whole (resumed_of (Err c.in_err-found.field-0.0)) a.buf.now a.file_len c.in_err-found.ensures (refusal-not_done _))

pub returns : goal.returns
returns c =
    let a = c.args in
    done-whole (resumed_of (Ok c.in_ok-found.found)) a.buf.now a.file_len c.in_ok-found.ensures 0xFFFF_FFFF_FFFF_FFFF (omega arith) refl c.put_open_size.result _ c.put_open_size.ensures.0 c.put_open_size.ensures.1
