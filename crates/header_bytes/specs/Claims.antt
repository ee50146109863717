-- What is to be proved of the file being made. Each claim is a type.
use Rattle.std.specs.Prelude.{ℕ, ◌+◌, ◌≤◌, ◌<◌, ◌≡◌, Bool, List, length}
use Rattle.format.specs.Desc.{Typed, RateIsNumber}
use Rattle.format.specs.declared.AudioFormat.{AudioFormat}
use Rattle.layout.specs.Setting.{label_places}
use Rattle.layout.specs.declared.ChannelLayout.{ChannelLayout}
use Rattle.layout.specs.declared.ChannelLayout.TheVariants.{Described}
use Rattle.reading.specs.Types.{edit_size, negative}
use Rattle.reading.specs.Grammar.{bytes_of, values_of, chunks_of}
use Rattle.reading.specs.Strict.{strict}
use Rattle.reading.specs.Shapes.{Accepted}
use Rattle.header_bytes.specs.Made.{made, header_bytes, start_of}

-- it is a CAF file within document 01's limits, open or closed, and the strict reading accepts it. How many labels there are matters only
-- where they are described: no layout and a tag write none
abbrev pub MadeAccepted : Type 0
MadeAccepted =
    (is_open : Bool) (f : AudioFormat) (layout : ChannelLayout) (ls audio : List ℕ)
    → Typed f → RateIsNumber f → (layout ≡ Described → length ls ≤ label_places) → edit_size + length audio < negative
    → strict (bytes_of (made is_open f layout ls audio))
    ≡ Accepted (values_of (made is_open f layout ls audio)) (chunks_of (made is_open f layout ls audio))

-- and how long a header is
abbrev pub HeaderLength : Type 0
HeaderLength = (f : AudioFormat) (layout : ChannelLayout) (ls : List ℕ) → length (header_bytes f layout ls) ≡ start_of layout ls
