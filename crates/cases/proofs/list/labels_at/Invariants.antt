use Rattle.std.proofs.Common.{◌≡◌, ℕ, take, length}
use Rattle.cases.specs.List.{numbers_at}
use Rattle.cases.proofs.list.labels_at.Given as goal

abbrev pub invariant-loop-i : goal.invariant-loop-i
invariant-loop-i l = (256 ≡ length l.label-items) × (take l.i l.label-items ≡ numbers_at (λ (u : ℕ). u) l.i l.s l.p)
