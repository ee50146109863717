-- 02, T-01 and T-05: the record that is fed, and when it is sound.
use Rattle.std.specs.Prelude.{ℕ, Option, Some, None, ◌+◌, ◌-◌, ◌*◌, Bool, true, not, ◌&&◌, ◌||◌, replicate, leb, ltb, eqb}
use Rattle.answers.specs.Numbers.{not_caf, bad_size, bad_rate, bad_version, bad_desc, second_data, too_long, file_max}
use Rattle.byte_order.specs.Rate.{not_aNumber}
use Rattle.format.specs.Desc.{desc_size}
use Rattle.format.specs.declared.AudioFormat.{AudioFormat}
use Rattle.reading.specs.Types.{file_header_size, chunk_header_size, edit_size, negative}
use Rattle.reading.specs.Step.{body_at}
use Rattle.reading.specs.Rules.{is_bad_data_size}
use Rattle.feeder.specs.declared.Phase.{Phase}
use Rattle.feeder.specs.declared.Phase.TheVariants.{FileHeader, FirstHeader, Desc, Header, Skipping, Edit, OpenData, ClosedData, Refused}
use Rattle.feeder.specs.declared.DataChunk.{DataChunk}
use Rattle.feeder.specs.declared.Feeder.{Feeder}

-- the longest piece is the body of a `desc`
abbrev pub held_room : ℕ
held_room = desc_size

-- no byte was fed
abbrev pub fresh : Feeder
fresh =
    record {
      phase = FileHeader;
      held = replicate held_room 0;
      count = 0;
      total = 0;
      chunks = 0;
    }

-- how many bytes the piece has that is collected in a phase; 0 where none is
abbrev pub piece_size : Phase → ℕ
piece_size FileHeader = file_header_size
piece_size FirstHeader = chunk_header_size
piece_size Desc = desc_size
piece_size (Header f d) = chunk_header_size
piece_size (Skipping f d left) = 0
piece_size (Edit f size) = edit_size
piece_size (OpenData f start) = 0
piece_size (ClosedData f c left) = 0
piece_size (Refused number) = 0

-- the refusals that the bytes themselves give, as soon as the piece is whole that tells them. All others (CutShort, NoData and
-- DataPastEnd) wait for the end
abbrev pub is_by_bytes : ℕ → Bool
is_by_bytes number =
    eqb number not_caf || eqb number bad_version || eqb number bad_desc || eqb number bad_rate || eqb number bad_size || eqb number second_data

-- what stands before the second chunk: the file header and the whole first chunk
abbrev pub after_the_first : ℕ
after_the_first = body_at file_header_size + desc_size

-- the rate is not a not-a-number
abbrev pub rate_is : AudioFormat → Bool
rate_is f = not (not_aNumber f.sample_rate)

-- k chunk headers were met, the first among them, and they stand within the first n bytes
abbrev pub met_within : ℕ → ℕ → Bool
met_within k n = leb 1 k && leb (after_the_first + chunk_header_size * (k - 1)) n

-- the rate is a number, and the k headers stand before the last n of so many bytes
abbrev pub headers_before : ℕ → ℕ → ℕ → AudioFormat → Bool
headers_before n bytes k f = rate_is f && leb n bytes && met_within k (bytes - n)

-- the size of a closed data chunk
abbrev pub is_closed_size : ℕ → Bool
is_closed_size size = leb edit_size size && ltb size negative

-- a data chunk that was passed lies after the first chunk, and within the first n bytes
abbrev pub passed_within : Option DataChunk → ℕ → Bool
passed_within None n = true
passed_within (Some c) n = is_closed_size c.size && leb (after_the_first + edit_size) c.start && leb c.start n && leb (c.size - edit_size) (n - c.start)

-- with n bytes of a piece held, of `total` read, and k chunk headers met
unfoldable pub phase_sound : ℕ → ℕ → ℕ → Phase → Bool
phase_sound n total k FileHeader = eqb total n && eqb k 0
phase_sound n total k FirstHeader = eqb total (file_header_size + n) && eqb k 0
phase_sound n total k Desc = eqb total (body_at file_header_size + n) && eqb k 1
phase_sound n total k (Header f d) = headers_before n total k f && passed_within d (total - n)
phase_sound n total k (Skipping f d left) = headers_before 0 total k f && passed_within d total && leb 1 left && ltb left negative
phase_sound n total k (Edit f size) = headers_before n total k f && not (is_bad_data_size size)
phase_sound n total k (OpenData f start) = leb start total && headers_before edit_size start k f
phase_sound n total k (ClosedData f c left) =
    leb c.start total && headers_before edit_size c.start k f && is_closed_size c.size && leb 1 left && leb left (c.size - edit_size) && eqb (total - c.start) (c.size - edit_size - left)
phase_sound n total k (Refused number) = leb (chunk_header_size * k) total && (eqb number too_long || is_by_bytes number)

-- a record that calls may have made. No more is read than a file may have, fewer bytes are held than the piece has, and none where
-- no piece is collected. BadWriter (19) refuses another
unfoldable pub sound : Feeder → Bool
sound r =
    leb r.total file_max
    && leb r.count (piece_size r.phase - 1)
    && phase_sound r.count r.total r.chunks r.phase
