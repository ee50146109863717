use Rattle.std.proofs.Common.{arith}
use Rattle.std.proofs.lemmas.Grind.{common_steps}
use Rattle.wave_reading.proofs.Compared.{compared, no_head}
use Rattle.wave_reading.proofs.reader.is_made.Goals as goal

pub returns-then-eq : goal.returns-then-eq
returns-then-eq c =
    let e = compared c.args.kind c.args.w c.args.s.now c.in-Ok.made c.requires c.in-Ok.ensures in
    grind (arith, common_steps, e)

pub returns-else-eq : goal.returns-else-eq
returns-else-eq c =
    let e = compared c.args.kind c.args.w c.args.s.now c.in-Ok.made c.requires c.in-Ok.ensures in
    grind (arith, common_steps, e)

pub returns-in_default : goal.returns-in_default
returns-in_default c = no_head c.args.kind c.args.w c.args.s.now c.in_default.field-0 c.requires c.in_default.ensures
