use Rattle.std.proofs.Common.{arith, rules, ◌≡◌, ◌*◌, length}
use Rattle.chan_reading.proofs.Sixes.{six-put, next-six}
use Rattle.chan_reading.proofs.describe.put_described.Goals as goal

pub loop-i-preserved : goal.loop-i-preserved
loop-i-preserved c =
    let l = c.loop-i in
    let six : length c.six_at.result ≡ 6 = search rules in
    let put = six-put l.out (6 * l.i) c.six_at.result c.copy_from_slice.new.self six c.copy_from_slice.ensures.after (omega arith) in
    (next-six c.args.body.now c.args.out.now l.i c.args.count (omega arith) c.requires.1 l.auto.out l.invariant c.six_at.ensures put).1
