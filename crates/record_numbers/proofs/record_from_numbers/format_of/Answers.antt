use Rattle.std.proofs.Common.{arith}
use borrow.Author.Tests.{ne_eqb}
use Rattle.numbers.proofs.WordLaws.{audio-words}
use Rattle.record_numbers.proofs.Records.{format-words}
use Rattle.record_numbers.proofs.record_from_numbers.format_of.Goals as goal

pub returns-else-numbers-eq0 : goal.returns-else-numbers-eq0
returns-else-numbers-eq0 c = let ns = c.args.numbers.now in rw (ne_eqb _ _ c.if-numbers-eq0.false, c.audio_of.ensures, audio-words ns (omega (arith, c.requires.0)) (format-words ns c.requires.1 c.if-numbers-eq0.false))
