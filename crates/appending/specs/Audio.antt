-- The data that a file ends with, as the overview takes them.
use Rattle.std.specs.Prelude.{ℕ, ◌-◌, ◌*◌, ◌/◌, Bool, false, ◌&&◌, Option, Some, None}
use Rattle.format.specs.declared.AudioFormat.{AudioFormat}
use Rattle.format.specs.Wide.{is_wide, whole_frames}
use Rattle.overview.specs.declared.Track.{Track}
use Rattle.pcm.specs.Packing.{sample_size}
use Rattle.appending.specs.declared.Audio.{Audio}

-- without a format there are none
abbrev pub channels_of : Option AudioFormat → ℕ
channels_of None = 0
channels_of (Some f) = f.channels_per_frame

-- whole frames of 24-bit integers; a file without a format has none
abbrev pub is_whole : Option AudioFormat → ℕ → Bool
is_whole None payload = false
is_whole (Some f) payload = is_wide f && whole_frames f.channels_per_frame payload

abbrev pub size_of : Audio → ℕ
size_of a = a.end - a.start

abbrev pub track_as : Audio → Track
track_as a = record { order = a.order; at = a.start; channels = channels_of a.format }

abbrev pub frames_as : Audio → ℕ
frames_as a = size_of a / (sample_size * channels_of a.format)
