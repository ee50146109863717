use Rattle.std.proofs.Common.{◌≡◌, ◌*◌, ◌-◌, ◌≤◌, length}
use Rattle.reading.specs.Rules.{Plain}
use Rattle.reading.specs.Walk.{walk}
use Rattle.reading.proofs.chunks.plain_walk.Given as goal

abbrev pub invariant-loop-f : goal.invariant-loop-f
invariant-loop-f l =
    record {
      counted : 12 * l.chunks ≤ l.p;
      within : l.p ≤ length l.s;
      walked : walk l.s Plain l.initial.p l.initial.format l.initial.chunks ≡ walk l.s Plain l.p l.format l.chunks;
    }

abbrev pub decreases-loop-f : goal.decreases-loop-f
decreases-loop-f l = length l.s - l.p
