-- 01, Numbers given back: which number refuses a call, from what it asks of its record. room is the length of the lent buffer.
use Rattle.format.specs.declared.AudioFormat.{AudioFormat}
use Rattle.std.specs.Prelude.{ℕ, ◌+◌, Bool, true, false, cond, not, ◌||◌, ltb, Option, Some, None}
use Rattle.answers.specs.Numbers.{done, bad_writer, finished, no_header, no_format, no_room_left, file_max}

-- NoRoom: the file would be longer than the buffer, or longer than any file may be
abbrev pub exceeds : ℕ → ℕ → Bool
exceeds len room = ltb room len || ltb file_max len

abbrev pub is_absent : Option AudioFormat → Bool
is_absent None = true
is_absent (Some f) = false

-- a data call of n bytes, by the order for writing: 19, 10, 11, 14
abbrev pub data_number_as : (sound isFinished hasHeader : Bool) (fileLen room n : ℕ) → ℕ
data_number_as sound isFinished hasHeader fileLen room n =
    cond (not sound) bad_writer
    (cond isFinished finished
    (cond (not hasHeader) no_header
    (cond (exceeds (fileLen + n) room) no_room_left
    done)))

-- 02, T-08: samples are not packed into a file without a format (NoFormat, after NoHeader), also where the call brings none
abbrev pub samples_number_as : (sound isFinished hasHeader absent : Bool) (fileLen room n : ℕ) → ℕ
samples_number_as sound isFinished hasHeader absent fileLen room n =
    cond (not sound) bad_writer
    (cond isFinished finished
    (cond (not hasHeader) no_header
    (cond absent no_format
    (cond (exceeds (fileLen + n) room) no_room_left
    done))))

-- a finish, by the same order. A second finish is no fault
abbrev pub finish_number_as : (sound isFinished hasHeader : Bool) → ℕ
finish_number_as sound isFinished hasHeader =
    cond (not sound) bad_writer
    (cond isFinished done
    (cond (not hasHeader) no_header
    done))
