use native.Mathlib.Omega.{arith}
use Rattle.layout.proofs.Body.{too_many, no_room, body-put}
use Rattle.layout.proofs.chan.put_chan.Goals as goal

pub returns-then-labels-gt-LABEL_PLACES : goal.returns-then-labels-gt-LABEL_PLACES
returns-then-labels-gt-LABEL_PLACES c = too_many c.args.buf.now c.args.at c.args.tag c.args.labels.now c.if-labels-gt-LABEL_PLACES.true

pub returns-then-buf-size : goal.returns-then-buf-size
returns-then-buf-size c =
    let a = c.args in
    no_room a.buf.now a.at a.tag a.labels.now (omega arith) (omega arith)

pub returns-then-buf-size-2 : goal.returns-then-buf-size-2
returns-then-buf-size-2 c =
    let a = c.args in
    no_room a.buf.now a.at a.tag a.labels.now (omega arith) (omega arith)

pub returns : goal.returns
returns c =
    let a = c.args in
    body-put a.buf.now a.at a.tag a.labels.now (omega arith) (omega arith) c.head.ensures c.store.ensures.1 c.put_descriptions.ensures
