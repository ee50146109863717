use Rattle.std.proofs.Common.{◌≡◌, ◌+◌, ◌-◌, arith, lit<}
use Rattle.byte_order.proofs.Power.{step, word}
use Rattle.wave_reading.proofs.Bytes.{byte_more}
use Rattle.wave_reading.proofs.fields.little_at.Goals as goal

pub overflow_mul-v : goal.overflow_mul-v
overflow_mul-v c =
    let w = c.args.w in
    omega (arith, word (w - c.loop-i.i + 1) (omega arith), step {b = 0} (w - c.loop-i.i) c.loop-i.invariant.small (lit< tt))

pub overflow_add-v : goal.overflow_add-v
overflow_add-v c =
    let w = c.args.w in
    omega (arith, word (w - c.loop-i.i + 1) (omega arith), step (w - c.loop-i.i) c.loop-i.invariant.small c.byte_at.ensures.1)

pub loop-i-preserved : goal.loop-i-preserved
loop-i-preserved c =
    let a = c.args in
    let e : a.w - c.loop-i.i + 1 ≡ a.w - (c.loop-i.i - 1) = omega arith in
    record {
      read = byte_more a.s.now a.p a.w c.loop-i.i c.loop-i.v c.byte_at.result (omega arith) (omega arith) c.loop-i.invariant.read c.byte_at.ensures.0;
      small = rw e at (step (a.w - c.loop-i.i) c.loop-i.invariant.small c.byte_at.ensures.1);
    }
