-- 02, T-01 and T-05: what a whole piece leads to, by the strict reading's rules.
use Rattle.std.specs.Prelude.{ℕ, Option, Some, None, ◌-◌, cond, not, ◌&&◌, List, leb, eqb}
use Rattle.answers.specs.Numbers.{not_caf, bad_size, bad_rate, bad_version, bad_desc, second_data}
use Rattle.format.specs.Desc.{format_at, desc_size}
use Rattle.format.specs.declared.AudioFormat.{AudioFormat}
use Rattle.reading.specs.Types.{'caff', 'desc', 'data', version, type_size, edit_size, negative}
use Rattle.reading.specs.Step.{stands_at, size_at, bad_rate_at}
use Rattle.reading.specs.Rules.{is_open_size, is_bad_data_size}
use Rattle.feeder.specs.declared.Phase.{Phase}
use Rattle.feeder.specs.declared.Phase.TheVariants.{FileHeader, FirstHeader, Desc, Header, Skipping, Edit, OpenData, ClosedData, Refused}
use Rattle.feeder.specs.declared.DataChunk.{DataChunk}

-- n bytes of a body are to be passed over; after it a chunk header is to come
abbrev pub skipping : AudioFormat → Option DataChunk → ℕ → Phase
skipping f d n = cond (eqb n 0) (Header f d) (Skipping f d n)

-- n bytes of closed data are to be passed over; after them the tail is to come
abbrev pub passing : AudioFormat → DataChunk → ℕ → Phase
passing f c n = cond (eqb n 0) (Header f (Some c)) (ClosedData f c n)

-- the header of a data chunk, by the strict reading's rules: after the data it is the second (SecondData)
abbrev pub judged_data : AudioFormat → Option DataChunk → ℕ → Phase
judged_data f None size = cond (is_bad_data_size size) (Refused bad_size) (Edit f size)
judged_data f (Some c) size = Refused second_data

-- a chunk header after the first chunk
unfoldable pub judged_header : List ℕ → AudioFormat → Option DataChunk → Phase
judged_header piece f d =
    cond (stands_at piece 0 'desc') (Refused bad_desc)
    (cond (stands_at piece 0 'data') (judged_data f d (size_at piece 0))
    (cond (leb negative (size_at piece 0)) (Refused bad_size) (skipping f d (size_at piece 0))))

-- the data start at `start`: open ones go to the end of the file, closed ones as far as their size says
abbrev pub begun_data : AudioFormat → ℕ → ℕ → Phase
begun_data f size start = cond (is_open_size size) (OpenData f start) (passing f (record { size = size; start = start }) (size - edit_size))

-- what a whole piece leads to, where it ends at position `total`
unfoldable pub judged : List ℕ → ℕ → Phase → Phase
judged piece total FileHeader =
    cond (not (stands_at piece 0 'caff')) (Refused not_caf)
    (cond (not (stands_at piece type_size version)) (Refused bad_version)
    FirstHeader)
judged piece total FirstHeader =
    cond (not (stands_at piece 0 'desc' && eqb (size_at piece 0) desc_size)) (Refused bad_desc) Desc
judged piece total Desc = cond (bad_rate_at piece 0) (Refused bad_rate) (Header (format_at piece 0) None)
judged piece total (Header f d) = judged_header piece f d
judged piece total (Skipping f d left) = Skipping f d left
judged piece total (Edit f size) = begun_data f size total
judged piece total (OpenData f start) = OpenData f start
judged piece total (ClosedData f c left) = ClosedData f c left
judged piece total (Refused number) = Refused number
