-- 02, T-01 and T-05: the end call.
use Rattle.std.specs.Prelude.{ℕ, Option, Some, None, ◌-◌, cond, ltb, eqb}
use Rattle.answers.specs.Numbers.{cut_short, no_data, data_past_end, bad_writer}
use Rattle.format.specs.declared.AudioFormat.{AudioFormat}
use Rattle.reading.specs.Types.{type_size, edit_size, open_size, size_to_data}
use Rattle.reading.specs.Strict.{strict_info}
use Rattle.reading.specs.declared.StrictInfo.{StrictInfo}
use Rattle.reading.specs.Shapes.{StrictAnswer, Accepted, Rejected}
use Rattle.feeder.specs.Record.{sound}
use Rattle.feeder.specs.declared.Phase.{Phase}
use Rattle.feeder.specs.declared.Phase.TheVariants.{FileHeader, FirstHeader, Desc, Header, Skipping, Edit, OpenData, ClosedData, Refused}
use Rattle.feeder.specs.declared.DataChunk.{DataChunk}
use Rattle.feeder.specs.declared.Feeder.{Feeder}

-- the values of an accepted file whose data start at `start`, where `after` bytes stand from there on
abbrev pub info_at : AudioFormat → ℕ → ℕ → ℕ → StrictInfo
info_at f size start after = strict_info f size (start - size_to_data) start after

-- where a chunk header is due, with n bytes of it. Before the data, without its type there are none to come (NoData), with it the header is
-- cut (CutShort); after them the file ends well with no byte of it
abbrev pub header_end : ℕ → ℕ → StrictAnswer
header_end n k = cond (ltb n type_size) (Rejected no_data k) (Rejected cut_short k)

abbrev pub chunk_end : ℕ → ℕ → AudioFormat → Option DataChunk → StrictAnswer
chunk_end n k f None = header_end n k
chunk_end n k f (Some c) = cond (eqb n 0) (Accepted (info_at f c.size c.start (c.size - edit_size)) k) (Rejected cut_short k)

-- with n bytes of a piece held, of `total` read, and k chunk headers met
abbrev pub end_as : ℕ → ℕ → ℕ → Phase → StrictAnswer
end_as n total k FileHeader = Rejected cut_short k
end_as n total k FirstHeader = header_end n k
end_as n total k Desc = Rejected cut_short k
end_as n total k (Header f d) = chunk_end n k f d
end_as n total k (Skipping f d left) = Rejected cut_short k
end_as n total k (Edit f size) = Rejected cut_short k
end_as n total k (OpenData f start) = Accepted (info_at f open_size start (total - start)) k
end_as n total k (ClosedData f c left) = Rejected data_past_end k
end_as n total k (Refused number) = Rejected number k

abbrev pub end_of : Feeder → StrictAnswer
end_of r = end_as r.count r.total r.chunks r.phase

-- the end call. It changes nothing in the record, so that a second one answers the same; a record that no calls made is refused
unfoldable pub end : Feeder → StrictAnswer
end r = cond (sound r) (end_of r) (Rejected bad_writer 0)
