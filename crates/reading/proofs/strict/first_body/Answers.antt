use Rattle.reading.proofs.DescAt.{first-refused}
use Rattle.reading.proofs.strict.first_body.Goals as goal

pub returns-in-Err : goal.returns-in-Err
returns-in-Err c = rw c.new.ensures (first-refused c.args.s.now c.in-Err.ensures)
