use mathlib.Core.Path.{◌≡◌}
use native.Mathlib.Omega.{arith}
use lib.ListN.{length}
use lib.Seq.{length-take-le}
use Rattle.writer.proofs.Heads.{described-few}
use borrow.Author.Rules.{rules}
use Rattle.writer.proofs.CAFWriter.header_len.Goals as goal

pub overflow_mul-result : goal.overflow_mul-result
overflow_mul-result c = omega (arith, described-few c.args.self c.requires c.in-Described.is)

pub overflow_add-result : goal.overflow_add-result
overflow_add-result c = omega (arith, described-few c.args.self c.requires c.in-Described.is)

pub returns-in-Described : goal.returns-in-Described
returns-in-Described c =
    let w = c.args.self in
    let k : length w.labels ≡ 64 = search rules in
    let few = described-few w c.requires c.in-Described.is in
    rw (c.in-Described.is, length-take-le w.label_count w.labels (omega arith))
