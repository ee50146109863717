use borrow.Author.Tests.{le-ltb}
use Rattle.reading.proofs.DescAt.{desc_told}
use Rattle.reading.proofs.chunk.desc_format.Goals as goal

pub returns : goal.returns
returns c = rw (c.ok_or.ensures.value, c.desc_of.ensures, le-ltb _ _ c.if-s-body-lt-DESC.false) (desc_told c.args.s.now c.args.body c.bytes_at.ensures)
