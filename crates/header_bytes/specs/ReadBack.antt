-- The file being made is read back by the strict reading: with the values that it was made from, and with its audio where they say.
use Rattle.std.specs.Prelude.{ℕ, ◌+◌, ◌≤◌, ◌<◌, ◌≡◌, Bool, List, length, take, drop}
use Rattle.format.specs.Desc.{Typed, RateIsNumber}
use Rattle.format.specs.declared.AudioFormat.{AudioFormat}
use Rattle.layout.specs.Setting.{label_places}
use Rattle.layout.specs.declared.ChannelLayout.{ChannelLayout}
use Rattle.layout.specs.declared.ChannelLayout.TheVariants.{Described}
use Rattle.reading.specs.Types.{edit_size, negative, size_to_data}
use Rattle.reading.specs.Grammar.{bytes_of}
use Rattle.reading.specs.Strict.{strict}
use Rattle.reading.specs.declared.StrictInfo.{StrictInfo}
use Rattle.reading.specs.Shapes.{Accepted}
use Rattle.header_bytes.specs.Made.{made, start_of}

module _ (is_open : Bool) (f : AudioFormat) (layout : ChannelLayout) (ls audio : List ℕ) where
  pub record Found (v : StrictInfo) : Type 0 where
    pub format : v.format ≡ f
    pub start : v.data_start ≡ start_of layout ls
    pub field : v.size_position + size_to_data ≡ start_of layout ls
    pub payload : v.payload ≡ length audio
    pub state : v.«open» ≡ is_open
    pub there : take v.payload (drop v.data_start (bytes_of (made is_open f layout ls audio))) ≡ audio

-- open before the finish, closed after it: in both states with exactly the payload
abbrev pub ReadBack : Type 0
ReadBack =
    (is_open : Bool) (f : AudioFormat) (layout : ChannelLayout) (ls audio : List ℕ)
    → Typed f → RateIsNumber f → (layout ≡ Described → length ls ≤ label_places) → edit_size + length audio < negative
    → (v : StrictInfo) × (k : ℕ) × (strict (bytes_of (made is_open f layout ls audio)) ≡ Accepted v k) × Found is_open f layout ls audio v
