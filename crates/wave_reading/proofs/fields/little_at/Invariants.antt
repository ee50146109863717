use Rattle.std.proofs.Common.{◌≡◌, ◌+◌, ◌-◌, ◌<◌, ◌^◌}
use Rattle.wave.specs.Little.{little_at}
use Rattle.wave_reading.proofs.fields.little_at.Given as goal

abbrev pub invariant-loop-i : goal.invariant-loop-i
invariant-loop-i l =
    record {
      read : l.v ≡ little_at (l.w - l.i) l.s (l.p + l.i);
      small : l.v < 256 ^ (l.w - l.i);
    }
