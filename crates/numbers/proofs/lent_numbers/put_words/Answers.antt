use Rattle.std.proofs.Common.{◌+◌, ◌<◌, ◌≤◌, length, arith, add-one}
use Rattle.std.proofs.Math.Seq.{paste-suc}
use Rattle.std.proofs.lemmas.Bool.Decides.{nat_tests}
use Rattle.numbers.proofs.lent_numbers.put_words.Goals as goal

pub loop-i-preserved : goal.loop-i-preserved
loop-i-preserved c =
    let a = c.args in
    let room : a.at + length a.words.now ≤ length a.out.now = grind (arith, nat_tests) in
    let hd : a.at + c.loop-i.i < length a.out.now = omega arith in
    rw (c.from.ensures, add-one, c.loop-i.invariant) (paste-suc a.out.now a.at a.words.now c.loop-i.i 0 hd c.loop-i-test.true)
