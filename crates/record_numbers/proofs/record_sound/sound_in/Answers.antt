use Rattle.std.proofs.Common.{ℕ, List, arith, ap, ◌∙◌}
use Rattle.std.proofs.Math.Seq.{take_all}
use Rattle.record_numbers.specs.RecordSound.{sound_in}
use Rattle.record_numbers.proofs.record_sound.sound_in.Goals as goal

pub slice_bounds-record_sound-end : goal.slice_bounds-record_sound-end
slice_bounds-record_sound-end c = rw (take_all 84 c.args.numbers.now (omega arith)) (omega arith)

pub returns-then-numbers-eq-RECORD : goal.returns-then-numbers-eq-RECORD
returns-then-numbers-eq-RECORD c =
    let a = c.args in
    c.record_sound.ensures ∙ ap (λ (ns : List ℕ). sound_in ns a.room) (take_all 84 a.numbers.now (omega arith))
