use Rattle.std.proofs.Common.{length, sym}
use Rattle.std.proofs.lemmas.Result.{err_from_is_err_and}
use Rattle.writer.specs.Record.{with_data}
use Rattle.writer.specs.Outcome.{stores}
use Rattle.writer.specs.Data.{data_number, data_call}
use Rattle.writer.proofs.Tests.{refusal-not_done}
use Rattle.writer.proofs.Counting.{counted-refused, counted-stored}
use Rattle.writer.proofs.Allowed.{data-number, data-allowed}
use Rattle.writer.proofs.CAFWriter.write_data_counted.Goals as goal

pub returns-in_err-check_data : goal.returns-in_err-check_data
unfolding data_call
returns-in_err-check_data c =
    let a = c.args in
    let p = err_from_is_err_and c.from_residual.result c.from_residual.ensures.1 in
    let is = data-number a.self (length a.buf.now) c.standing.result c.standing.ensures (length a.«data».now) c.in_err-check_data.ensures in
    rw (p.1, p.2, ← is) (counted-refused a.n a.self a.buf.now _ (stores a.self.file_len a.«data».now (with_data a.self (length a.«data».now))) (refusal-not_done _))

pub returns : goal.returns
unfolding data_call
returns c =
    let a = c.args in
    let room = length a.buf.now in
    let z = sym (data-number a.self room c.standing.result c.standing.ensures (length a.«data».now) c.in_ok-check_data.ensures) in
    let h = data-allowed a.self room (length a.«data».now) z in
    let d = counted-stored a.n a.self a.buf.now (data_number a.self room (length a.«data».now)) a.self.file_len a.«data».now (with_data a.self (length a.«data».now)) z h.in-room c.store-stores.result _ c.store-stores.ensures.0 c.store-stores.ensures.1 in
    (rw c.with_stores.ensures d.0, d.1)
