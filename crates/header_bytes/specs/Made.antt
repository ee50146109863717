-- 01, The file being made: as the grammar makes it from a format, a layout and the audio.
use Rattle.std.specs.Prelude.{ℕ, ◌+◌, ◌*◌, Bool, true, false, List, [], ◌∷◌, length}
use Rattle.format.specs.declared.AudioFormat.{AudioFormat}
use Rattle.layout.specs.Chan.{chan_body}
use Rattle.layout.specs.Tags as tag
use Rattle.layout.specs.declared.ChannelLayout.{ChannelLayout}
use Rattle.layout.specs.declared.ChannelLayout.TheVariants.{NoLayout, Tagged, Described}
use Rattle.reading.specs.Types.{'chan'}
use Rattle.reading.specs.Grammar.{OtherChunk, CafFile, bytes_of}

abbrev pub chan_chunk : ℕ → List ℕ → OtherChunk
chan_chunk t ls = record { type = 'chan'; body = chan_body t ls }

-- a layout is one `chan` chunk, and no layout is none. A tag alone tells the labels, so that none are described with it
abbrev pub layout_chunks : ChannelLayout → List ℕ → List OtherChunk
layout_chunks NoLayout ls = []
layout_chunks (Tagged t) ls = chan_chunk t [] ∷ []
layout_chunks Described ls = chan_chunk tag.UseChannelDescriptions ls ∷ []

-- the data chunk is open as long as the writer is not finished; its edit count is always 0, and no chunk stands after it
abbrev pub made : Bool → AudioFormat → ChannelLayout → List ℕ → List ℕ → CafFile
made is_open f layout ls audio =
    record { format = f; others = layout_chunks layout ls; is_open = is_open; edit_count = 0; audio = audio; tail = [] }

-- the header is the open file with no audio yet
unfoldable pub header_bytes : AudioFormat → ChannelLayout → List ℕ → List ℕ
header_bytes f layout ls = bytes_of (made true f layout ls [])

-- the file of a writer that was never cut and has been finished
unfoldable pub finished_file : AudioFormat → ChannelLayout → List ℕ → List ℕ → List ℕ
finished_file f layout ls audio = bytes_of (made false f layout ls audio)

-- 01, The file being made: where the data start. A `chan` chunk makes 24 bytes, and each described label 20 more
abbrev pub start_of : ChannelLayout → List ℕ → ℕ
start_of NoLayout ls = 68
start_of (Tagged tag) ls = 92
start_of Described ls = 92 + 20 * length ls
