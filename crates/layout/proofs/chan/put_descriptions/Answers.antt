use mathlib.Core.Path.{◌≡◌, refl, sym, ◌∙◌}
use native.Mathlib.Omega.{arith}
use lib.ListN.{length}
use lib.Seq.{take-length}
use Rattle.byte_order.proofs.Laws.{splice-nil}
use Rattle.layout.proofs.Descriptions.{described}
use Rattle.layout.proofs.chan.put_descriptions.Goals as goal

pub loop-i-init : goal.loop-i-init
loop-i-init c = (omega arith, refl, sym (splice-nil c.args.buf.now c.args.at))

pub loop-i-preserved : goal.loop-i-preserved
loop-i-preserved c =
    let a = c.args in
    let next = described a.buf.now a.at c.loop-i.i a.labels.now (omega arith) (omega arith) c.loop-i.invariant.1 c.loop-i.invariant.2 c.one.ensures c.store.ensures.1 in
    (omega arith, next.0, next.1)

pub returns : goal.returns
returns c =
    let ls = c.args.labels.now in
    let e : c.loop-i.i ≡ length ls = omega arith in
    c.loop-i.invariant.2 ∙ rw (e, take-length)
