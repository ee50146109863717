use Rattle.differing.proofs.GroupLaws.{passed}
use Rattle.differing.proofs.group.count_group.Goals as goal

pub returns-then-passable : goal.returns-then-passable
returns-then-passable c =
    let a = c.args in
    passed a.o a.one.now a.p a.two.now a.counts.now a.first a.from a.to c.requires.0 c.requires.1 (c.passable.ensures c.if-passable.true) c.requires.2
