-- 02, T-12: the answers of a comparison as rows, each beside the facts under which it is given. The claim ComparedExactly says that two files
-- are answered by these rows alone.
use Rattle.std.specs.Prelude.{ℕ, ◌<◌, ◌≤◌, ◌≡◌, true, false, List}
use Rattle.answers.specs.Numbers.{done, no_room_left, wrong_width, cannot_compare}
use Rattle.format.specs.Wide.{is_wide}
use Rattle.reading.specs.Strict.{strict}
use Rattle.reading.specs.declared.StrictInfo.{StrictInfo}
use Rattle.reading.specs.Shapes.{Accepted, Rejected}
use Rattle.difference.specs.Sides.{channels_of}
use Rattle.difference.specs.Difference.{difference}
use Rattle.difference.specs.Compared.{number_in, side_of}
use Rattle.difference.specs.Answer.{Compared}
use Rattle.difference.specs.Answer.{Differing, Refused}

-- a file that the strict reading accepts with these values and T-03 does not refuse
pub record Read (s : List ℕ) (v : StrictInfo) : Type 0 where
  pub chunks : ℕ
  pub accepted : strict s ≡ Accepted v chunks
  pub layout : number_in s v ≡ done

-- both are read, and their samples have 24 bits
pub record Wide (s t : List ℕ) (v w : StrictInfo) : Type 0 where
  pub first : Read s v
  pub second : Read t w
  pub one : is_wide v.format ≡ true
  pub two : is_wide w.format ≡ true

-- the readings of the first file, those of the second; the width of the first, of the second; the channels; the room
pub data ComparedGives (s t : List ℕ) (room : ℕ) : Compared → Type 0 where
  first-rejected : (number k : ℕ) → strict s ≡ Rejected number k → ComparedGives s t room (Refused number 1)
  first-layout : (v : StrictInfo) (k : ℕ) → strict s ≡ Accepted v k → ¬ (number_in s v ≡ done) → ComparedGives s t room (Refused (number_in s v) 1)
  second-rejected : (v : StrictInfo) → Read s v → (number k : ℕ) → strict t ≡ Rejected number k → ComparedGives s t room (Refused number 2)
  second-layout : (v w : StrictInfo) → Read s v → (k : ℕ) → strict t ≡ Accepted w k → ¬ (number_in t w ≡ done) → ComparedGives s t room (Refused (number_in t w) 2)
  first_width : (v w : StrictInfo) → Read s v → Read t w → is_wide v.format ≡ false → ComparedGives s t room (Refused wrong_width 1)
  second-width : (v w : StrictInfo) → Read s v → Read t w → is_wide v.format ≡ true → is_wide w.format ≡ false → ComparedGives s t room (Refused wrong_width 2)
  other-channels : (v w : StrictInfo) → Wide s t v w → ¬ (channels_of (side_of s v) ≡ channels_of (side_of t w)) → ComparedGives s t room (Refused cannot_compare 0)
  no_room : (v w : StrictInfo) → Wide s t v w → channels_of (side_of s v) ≡ channels_of (side_of t w) → room < channels_of (side_of s v) → ComparedGives s t room (Refused no_room_left 0)
  fits : (v w : StrictInfo) → Wide s t v w → channels_of (side_of s v) ≡ channels_of (side_of t w) → channels_of (side_of s v) ≤ room
      → ComparedGives s t room (Differing (difference (side_of s v) (side_of t w)))
