use Rattle.std.proofs.Common.{arith}
use Rattle.wave.proofs.Masks.{each, bit_added}
use Rattle.wave_head.proofs.labels.mask_of.Goals as goal

pub overflow_sub-mask : goal.overflow_sub-mask
overflow_sub-mask c = omega (arith, (each 0 c.args.labels.now c.loop-label.label-index c.requires (omega arith)).0)

pub overflow_shl-mask : goal.overflow_shl-mask
overflow_shl-mask c = omega (arith, (each 0 c.args.labels.now c.loop-label.label-index c.requires (omega arith)).1)

pub overflow_add-mask : goal.overflow_add-mask
overflow_add-mask c = record { fits = (bit_added c.args.labels.now c.loop-label.label-index c.loop-label.mask c.requires (omega arith) c.loop-label.invariant).0 }

pub loop-label-preserved : goal.loop-label-preserved
loop-label-preserved c = (bit_added c.args.labels.now c.loop-label.label-index c.loop-label.mask c.requires (omega arith) c.loop-label.invariant).1
