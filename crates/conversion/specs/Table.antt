-- 02, T-11: when a conversion gives which number, as rows of facts in the order of its refusals. The claim WaveExactly says that it answers by
-- these rows alone.
use Rattle.std.specs.Prelude.{ℕ, ◌<◌, ◌≤◌, ◌≡◌, true, false, List}
use Rattle.answers.specs.Numbers.{done, no_room_left, not_closed, wrong_width, not_for_wave}
use Rattle.reading.specs.Strict.{strict}
use Rattle.reading.specs.declared.StrictInfo.{StrictInfo}
use Rattle.reading.specs.Shapes.{Accepted, Rejected}
use Rattle.wave.specs.Table.{Whole, Sayable}
use Rattle.conversion.specs.Said.{chan_of, layout_number, labels_of}
use Rattle.conversion.specs.Conversion.{file_length}

-- neither the strict reading nor the layout's reader refuses the file
pub record Good (s : List ℕ) (v : StrictInfo) : Type 0 where
  pub chunks : ℕ
  pub accepted : strict s ≡ Accepted v chunks
  pub layout : layout_number (chan_of s) v.format.channels_per_frame ≡ done

abbrev pub Says : List ℕ → StrictInfo → Type 0
Says s v = Sayable v.format (labels_of (chan_of s)) v.payload

pub data WaveGives (s : List ℕ) (room : ℕ) : ℕ → Type 0 where
  -- the strict reading's
  by-strict : (number k : ℕ) → strict s ≡ Rejected number k → WaveGives s room number
  -- T-03's
  by_layout : (v : StrictInfo) (k : ℕ) → strict s ≡ Accepted v k → ¬ (layout_number (chan_of s) v.format.channels_per_frame ≡ done)
      → WaveGives s room (layout_number (chan_of s) v.format.channels_per_frame)
  not-closed : (v : StrictInfo) → Good s v → v.«open» ≡ true → WaveGives s room not_closed
  other_width : (v : StrictInfo) → Good s v → v.«open» ≡ false → ¬ Whole v.format v.payload → WaveGives s room wrong_width
  not-sayable : (v : StrictInfo) → Good s v → v.«open» ≡ false → Whole v.format v.payload → ¬ Says s v → WaveGives s room not_for_wave
  no_room : (v : StrictInfo) → Good s v → v.«open» ≡ false → Whole v.format v.payload → Says s v → room < file_length v.payload → WaveGives s room no_room_left
  made : (v : StrictInfo) → Good s v → v.«open» ≡ false → Whole v.format v.payload → Says s v → file_length v.payload ≤ room → WaveGives s room done
