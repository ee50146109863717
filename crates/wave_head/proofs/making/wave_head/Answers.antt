use Rattle.std.proofs.Common.{◌<◌, sym}
use Rattle.wave.proofs.Exactly.{some-channels}
use Rattle.wave_head.proofs.MadeAnswer.{few}
use Rattle.wave_head.proofs.making.wave_head.Goals as goal
use Rattle.wave_head.proofs.making.wave_head.Goals.{then-is_wide, else-is_wide}

pub made-requires : goal.made-requires
made-requires c =
    let f = c.args.format in
    let some : 0 < f.channels_per_frame =
    elim c.if-is_wide.branch [ then-is_wide w ↦ some-channels f (sym w.if-is_wide.ensures) | else-is_wide w ↦ cc (w.value-is, w.if-is_wide.false, c.if-not-whole_frames.false) ] in
    (some, few c.args.labels.now f.channels_per_frame (sym c.if-not-can_carry.ensures), sym c.if-not-fields_fit.ensures)
