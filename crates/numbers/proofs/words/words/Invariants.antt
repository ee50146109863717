use Rattle.std.proofs.Common.{◌≡◌, take}
use Rattle.numbers.specs.Words.{is_word, all_words}
use Rattle.numbers.proofs.words.words.Given as goal

abbrev pub invariant-loop-number : goal.invariant-loop-number
invariant-loop-number l = is_word l.bits ≡ all_words (take l.number-index l.numbers)
