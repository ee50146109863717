use Rattle.std.proofs.Common.{arith, sym, length}
use Rattle.std.proofs.lemmas.Result.{err_from_is_err_and}
use Rattle.chan_reading.proofs.Answers.{given-fits, chan-refused, chan-given}
use Rattle.chan_reading.proofs.describe.read_chan.Goals as goal

pub returns-in_err-head : goal.returns-in_err-head
returns-in_err-head c =
    let a = c.args in
    let p = err_from_is_err_and c.from_residual.result c.from_residual.ensures.1 in
    rw (p.1, p.2) (chan-refused a.body.now a.channels (length a.out.now) _ a.out.now c.in_err-head.ensures)

pub put_described-requires : goal.put_described-requires
put_described-requires c =
    let body = c.args.body.now in
    let g = given-fits body (length body) c.args.channels (length c.args.out.now) c.in_ok-head.head (sym c.in_ok-head.ensures) in
    (omega (arith, g.0), g.1)

pub returns : goal.returns
returns c =
    let a = c.args in
    chan-given a.body.now a.channels (length a.out.now) c.in_ok-head.head a.out.now c.in_ok-head.ensures c.order_for.ensures c.put_described.ensures
