use Rattle.std.proofs.Common.{◌≡◌, ◌+◌, ◌*◌, rules, arith, add-one, w16, to_z, of_z}
use Rattle.byte_order.specs.Big.{big_at}
use Rattle.overview.specs.Sixteen.{signed16}
use Rattle.overview.proofs.ReadLaws.{one_more}
use Rattle.overview.proofs.reader.show.Goals as goal

pub loop-i-preserved : goal.loop-i-preserved
loop-i-preserved c =
    let a = c.args in
    let i = c.loop-i.i in
    let x : to_z w16 (of_z w16 c.number_at.result) ≡ signed16 (big_at 2 a.body.now (8 + 2 * i)) = search rules in
    (omega arith, rw (add-one, c.loop-i.invariant.1) (one_more a.body.now a.out.now i _ x (omega arith)))
