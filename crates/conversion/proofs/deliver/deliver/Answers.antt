use mathlib.Core.Path.{◌≡◌}
use native.Mathlib.Omega.{arith}
use lib.ListN.{length}
use Rattle.conversion.proofs.Stored.{stored}
use borrow.Author.Rules.{rules}
use Rattle.conversion.proofs.deliver.deliver.Goals as goal

pub returns : goal.returns
returns c =
    let a = c.args in
    let l : length a.head.bytes ≡ 104 = search rules in
    stored a.out.now a.head.bytes a.samples.now a.head.size a.endianness (omega arith) c.requires.1 c.requires.2 c.store.ensures.1 c.put_little.ensures c.store-2.ensures.1
