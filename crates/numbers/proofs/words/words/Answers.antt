use Rattle.std.proofs.Common.{◌∙◌, get_or, add-one}
use Rattle.std.proofs.Math.Seq.{take-suc}
use Rattle.numbers.proofs.WordLaws.{word-or, words_more}
use Rattle.numbers.proofs.words.words.Goals as goal

pub loop-number-preserved : goal.loop-number-preserved
loop-number-preserved c =
    let s = c.args.numbers.now in
    let k = c.loop-number.number-index in
    word-or c.loop-number.bits (get_or s k 0) ∙ rw (c.loop-number.invariant, add-one, take-suc s k 0 c.loop-number-test.true, words_more)
