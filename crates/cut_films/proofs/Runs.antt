-- The bytes of a session's run, and a loop that fills an array with them: what it has done is the run up to there.
use mathlib.Core.Path.{◌≡◌, refl, ◌∙◌}
use mathlib.Core.List.{List, []}
use Prim.Native.Nat.{ℕ, ◌+◌, ◌<◌}
use native.Mathlib.Numerals.{add-one}
use lib.ListN.{length, take, set}
use lib.Seq.{take-suc-set}
use Rattle.cut_films.specs.Audio.{run_byte, run}

pub none_yet : (session : ℕ) → [] ≡ run session 0
unfolding run
none_yet session = refl

pub one_more : (session : ℕ) (l : List ℕ) (i v : ℕ) → i < length l → take i l ≡ run session i → v ≡ run_byte session i → take (i + 1) (set l i v) ≡ run session (i + 1)
unfolding run
one_more session l i v h e w = rw add-one (take-suc-set l i v h ∙ rw (e, w))
