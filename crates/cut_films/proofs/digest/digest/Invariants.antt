use Rattle.std.proofs.Common.{◌≡◌, ◌%◌, ◌^◌, take}
use Rattle.cut_films.specs.Digest.{weighed}
use Rattle.cut_films.proofs.digest.digest.Given as goal

abbrev pub invariant-loop-byte : goal.invariant-loop-byte
invariant-loop-byte l = l.d % 2 ^ 32 ≡ weighed (take l.byte-index l.file) % 2 ^ 32
