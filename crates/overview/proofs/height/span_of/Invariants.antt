use Rattle.std.proofs.Common.{◌≡◌, ◌+◌, ◌*◌, ◌-◌, ◌^◌, ◌<◌}
use Rattle.overview.specs.Height.{lowest, highest}
use Rattle.overview.proofs.height.span_of.Given as goal

abbrev pub invariant-loop : goal.invariant-loop
invariant-loop l =
    (l.place ≡ l.p + l.counter * l.step) × (l.low ≡ lowest l.order l.s l.p l.step l.counter) × (l.above + highest l.order l.s l.p l.step l.counter ≡ 2 ^ 16 - 1) × (l.low < 2 ^ 16)
