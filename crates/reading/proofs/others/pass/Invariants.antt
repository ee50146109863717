use Rattle.std.proofs.Common.{◌≡◌, ◌*◌, ◌-◌, ◌≤◌, length, Option}
use Rattle.format.specs.declared.AudioFormat.{AudioFormat}
use Rattle.reading.specs.Rules.{Rules}
use Rattle.reading.specs.Table.{Strictly}
use Rattle.reading.specs.Walk.{walk}
use Rattle.reading.proofs.others.pass.Given as goal

abbrev pub invariant-loop-p : goal.invariant-loop-p
invariant-loop-p l =
    record {
      counted : 12 * l.chunks ≤ l.p;
      within : l.p ≤ length l.s;
      walked : (rules : Rules) (f : Option AudioFormat) → Strictly rules → walk l.s rules l.initial.p f l.initial.chunks ≡ walk l.s rules l.p f l.chunks;
    }

abbrev pub decreases-loop-p : goal.decreases-loop-p
decreases-loop-p l = length l.s - l.p
