use Rattle.std.proofs.Common.{refl, sym}
use Rattle.numbers.proofs.Refused.{refused-some}
use Rattle.comparing.specs.Readings.{rejected, layout}
use Rattle.comparing.proofs.compare.read.Goals as goal

pub returns-in-Err : goal.returns-in-Err
returns-in-Err c = rw c.new.ensures (refl, rejected c.in-Err.refused.chunks (sym c.in-Err.ensures))

pub returns-in-Err-check_layout : goal.returns-in-Err-check_layout
returns-in-Err-check_layout c =
    let file = c.in-Ok.accepted in
    let r = c.in-Err-check_layout in
    rw c.new-in-Err-check_layout.ensures (refl, layout file.info file.chunks (sym c.in-Ok.ensures) r.ensures (refused-some r.refusal))
