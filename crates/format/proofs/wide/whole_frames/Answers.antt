use native.Mathlib.Nat.{mul-zero, mod-zero}
use borrow.Author.Rules.{rules}
use Rattle.format.proofs.wide.whole_frames.Goals as goal

pub returns-then-channels-eq0 : goal.returns-then-channels-eq0
returns-then-channels-eq0 c = rw (c.if-channels-eq0.true, mul-zero, mod-zero)
