use native.Mathlib.Omega.{arith}
use borrow.Author.Tests.{le-leb, lt-leb}
use Rattle.layout.specs.Labels.{AmbisonicW, XYY}
use Rattle.layout.proofs.known.is_coincident.Goals as goal

pub returns-in-200 : goal.returns-in-200
returns-in-200 c = let n = c.args.n in rw (le-leb AmbisonicW n (omega arith), le-leb n XYY (omega arith))

pub returns-in_default : goal.returns-in_default
returns-in_default c = let n = c.args.n in rw (lt-leb AmbisonicW n (omega arith))

pub returns-in_default-2 : goal.returns-in_default-2
returns-in_default-2 c = let n = c.args.n in rw (le-leb AmbisonicW n (omega arith), lt-leb n XYY (omega arith))
