use Rattle.std.proofs.Common.{◌≡◌, take, length}
use Rattle.cases.specs.List.{numbers_at, signed32}
use Rattle.cases.proofs.list.samples_at.Given as goal

abbrev pub invariant-loop-i : goal.invariant-loop-i
invariant-loop-i l = (16 ≡ length l.sample-items) × (take l.i l.sample-items ≡ numbers_at signed32 l.i l.s l.p)
