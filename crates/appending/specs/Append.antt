-- 02, T-09: the overview of a finished file, appended to it, from what the call asks of its record.
use Rattle.std.specs.Prelude.{ℕ, ◌+◌, ◌-◌, ◌≡◌, Bool, cond, not, List, eqb, Result, Ok, Err}
use Rattle.answers.specs.Numbers.{done, bad_writer, no_header, no_room_left, tail_after_data, not_closed, no_group, wrong_width}
use Rattle.byte_order.specs.Big.{big_at}
use Rattle.overview.specs.Body.{overview_chunk, chunk_length}
use Rattle.overview.specs.Put.{overview_into}
use Rattle.reading.specs.Types.{edit_size}
use Rattle.refusals.specs.Numbers.{exceeds}
use Rattle.appending.specs.Audio.{channels_of, is_whole, size_of, track_as, frames_as}
use Rattle.appending.specs.declared.Audio.{Audio}
use Rattle.answers.specs.Refused.{refusal_number}
use Rattle.answers.specs.declared.refusal.Refusal.{Refusal}

-- the answer, by number: how many bytes were stored, from the end of the data on
pub record Appended : Type 0 where
  pub number : ℕ
  pub stores : ℕ

-- the one that the code's answer stands for
abbrev pub appended_of : Result ℕ Refusal → Appended
appended_of (Ok n) = record { number = done; stores = n }
appended_of (Err e) = record { number = refusal_number e; stores = 0 }

-- the edit count of the data chunk: the four bytes before the data
abbrev pub edits_as : Audio → List ℕ → ℕ
edits_as a buf = big_at 4 buf (a.start - edit_size)

-- the chunk, and how long it is
abbrev pub overview_as : Audio → ℕ → List ℕ → List ℕ
overview_as a group buf = overview_chunk (track_as a) buf (edits_as a buf) group (frames_as a)

abbrev pub length_as : Audio → ℕ → ℕ
length_as a group = chunk_length (channels_of a.format) group (frames_as a)

-- its refusals in 02's order: 19, 11, 25, 24, 26, 27, 14. room is the length of the lent buffer
abbrev pub number_as : Audio → (group : ℕ) (sound hasHeader isFinished hasOverview : Bool) (room : ℕ) → ℕ
number_as a group sound hasHeader isFinished hasOverview room =
    cond (not sound) bad_writer
    (cond (not hasHeader) no_header
    (cond (not isFinished) not_closed
    (cond hasOverview tail_after_data
    (cond (eqb group 0) no_group
    (cond (not (is_whole a.format (size_of a))) wrong_width
    (cond (exceeds (a.end + length_as a group) room) no_room_left
    done))))))

-- the buffer with the chunk at the end of the data
abbrev pub into_as : Audio → ℕ → List ℕ → List ℕ
into_as a group buf = overview_into (track_as a) buf (edits_as a buf) group (frames_as a) a.end

-- what a call with that number promises: its answer, and the last contents of the lent buffer
abbrev pub Appends : ℕ → Audio → ℕ → Appended → List ℕ → List ℕ → Type 0
Appends number a group r buf last =
    (r ≡ record { number = number; stores = cond (eqb number done) (length_as a group) 0 }) × (last ≡ cond (eqb number done) (into_as a group buf) buf)
