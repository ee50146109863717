-- Soundness of what an array holds.
use Rattle.std.specs.Prelude.{ℕ, Bool, ◌&&◌, List}
use Rattle.writer.specs.Sound.{sound}
use Rattle.record_numbers.specs.RecordNumbers.{is_record, record_of}

-- the array stands for a record that is sound over a buffer of `room` bytes
unfoldable pub sound_in : List ℕ → ℕ → Bool
sound_in ns room = is_record ns && sound (record_of ns) room
