-- A header in a lent slice, and the parts that are put there one after the other.
use Rattle.std.specs.Prelude.{ℕ, ◌+◌, ◌*◌, Bool, true, cond, not, ◌&&◌, List, [], ◌++◌, length, leb}
use Rattle.byte_order.specs.Rate.{not_aNumber}
use Rattle.format.specs.Desc.{desc_size, desc_body}
use Rattle.format.specs.declared.AudioFormat.{AudioFormat}
use Rattle.layout.specs.Setting.{label_places}
use Rattle.layout.specs.declared.ChannelLayout.{ChannelLayout}
use Rattle.reading.specs.Types.{'desc', file_header_size, chunk_header_size}
use Rattle.reading.specs.Grammar.{file_header, chunk, data_chunk}
use Rattle.header_bytes.specs.Made.{header_bytes}

-- what stands before the layout: the file header, and the description
abbrev pub before_layout : AudioFormat → List ℕ
before_layout f = file_header ++ chunk 'desc' (desc_body f)

-- where the layout stands
abbrev pub layout_place : ℕ
layout_place = file_header_size + chunk_header_size + desc_size

-- what stands after it: the open data chunk, with no audio yet
abbrev pub open_head : List ℕ
open_head = data_chunk true 0 []

-- no header is longer than one that describes as many labels as a record holds
abbrev pub longest_header : ℕ
longest_header = 92 + 20 * label_places

-- whether a header is put into a slice of `room` bytes: every header has room there, no more labels are given than a record holds, and
-- the rate is a number, since no other has one pattern of bits
abbrev pub header_fits : ℕ → AudioFormat → List ℕ → Bool
header_fits room f ls = leb longest_header room && leb (length ls) label_places && not (not_aNumber f.sample_rate)

-- what is put there: the header, or nothing
abbrev pub header_in : ℕ → AudioFormat → ChannelLayout → List ℕ → List ℕ
header_in room f layout ls = cond (header_fits room f ls) (header_bytes f layout ls) []
