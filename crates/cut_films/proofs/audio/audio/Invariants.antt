use Rattle.std.proofs.Common.{◌≡◌, length, take}
use Rattle.cut_films.specs.Audio.{run}
use Rattle.cut_films.proofs.audio.audio.Given as goal

abbrev pub invariant-loop-i : goal.invariant-loop-i
invariant-loop-i l = (length l.byte-items ≡ 251) × (take l.i l.byte-items ≡ run l.session l.i)
