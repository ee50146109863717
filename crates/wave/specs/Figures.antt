-- 02, T-11: headers, refusals and readings by numbers, at both sides of every limit. Bytes and numbers are written out, so that a field, a width,
-- a limit or an order that is changed in every definition alike is not so here. No file of such a size is needed. The theorem `wave-figures`
-- of proofs/ says that all hold.
use Rattle.std.specs.Prelude.{ℕ, ◌+◌, ◌*◌, ◌^◌, ◌≡◌, List, [], ◌∷◌, ◌++◌, take, drop, Some, None}
use Rattle.byte_order.specs.Rate.{rate_of}
use Rattle.format.specs.declared.AudioFormat.{AudioFormat}
use Rattle.wave.specs.Rate.{whole_rate}
use Rattle.wave.specs.Mask.{mask_of}
use Rattle.wave.specs.Head.{size_as, kind_of, head_of}
use Rattle.wave.specs.Making.{making_number}
use Rattle.wave.specs.Reader.{wave_read}
use Rattle.wave.specs.declared.Wave.{Wave}
use Rattle.wave.specs.declared.Kind.TheVariants.{Riff, Rf64}

abbrev pub stereo : ℕ → Wave
stereo payload = record { rate = 48000; channels = 2; mask = 3; payload = payload }

abbrev pub mono : ℕ → Wave
mono payload = record { rate = 48000; channels = 1; mask = 4; payload = payload }

-- headers
pub record HeadFigures : Type 0 where
  -- the last RIFF size, and the first payload beyond it; it is odd, so its pad byte counts
  pub last : size_as Riff 4294967234 ≡ 4294967294
  pub last-is : kind_of 4294967234 ≡ Riff
  pub next : size_as Riff 4294967235 ≡ 4294967296
  pub next-is : kind_of 4294967235 ≡ Rf64
  -- 48 frames of stereo: ffmpeg's file, byte for byte
  pub small : head_of (stereo 288) ≡
      0x52 ∷ 0x49 ∷ 0x46 ∷ 0x46 ∷ 0x5C ∷ 0x01 ∷ 0x00 ∷ 0x00 ∷ 0x57 ∷ 0x41 ∷ 0x56 ∷ 0x45 ∷ 0x66 ∷ 0x6D ∷ 0x74 ∷ 0x20 ∷
      0x28 ∷ 0x00 ∷ 0x00 ∷ 0x00 ∷ 0xFE ∷ 0xFF ∷ 0x02 ∷ 0x00 ∷ 0x80 ∷ 0xBB ∷ 0x00 ∷ 0x00 ∷ 0x00 ∷ 0x65 ∷ 0x04 ∷ 0x00 ∷
      0x06 ∷ 0x00 ∷ 0x18 ∷ 0x00 ∷ 0x16 ∷ 0x00 ∷ 0x18 ∷ 0x00 ∷ 0x03 ∷ 0x00 ∷ 0x00 ∷ 0x00 ∷ 0x01 ∷ 0x00 ∷ 0x00 ∷ 0x00 ∷
      0x00 ∷ 0x00 ∷ 0x10 ∷ 0x00 ∷ 0x80 ∷ 0x00 ∷ 0x00 ∷ 0xAA ∷ 0x00 ∷ 0x38 ∷ 0x9B ∷ 0x71 ∷ 0x64 ∷ 0x61 ∷ 0x74 ∷ 0x61 ∷
      0x20 ∷ 0x01 ∷ 0x00 ∷ 0x00 ∷ []
  -- the last RIFF file of stereo frames: its two sizes
  pub last-stereo : take 4 (drop 4 (head_of (stereo 4294967232))) ++ drop 64 (head_of (stereo 4294967232)) ≡ 0xFC ∷ 0xFF ∷ 0xFF ∷ 0xFF ∷ 0xC0 ∷ 0xFF ∷ 0xFF ∷ 0xFF ∷ []
  -- one frame more: `RF64`, and after `WAVE` a `ds64` of 28 bytes with the sizes 4294967334, 4294967238 and 715827873 frames
  pub first-stereo : take 48 (head_of (stereo 4294967238)) ≡
      0x52 ∷ 0x46 ∷ 0x36 ∷ 0x34 ∷ 0xFF ∷ 0xFF ∷ 0xFF ∷ 0xFF ∷ 0x57 ∷ 0x41 ∷ 0x56 ∷ 0x45 ∷ 0x64 ∷ 0x73 ∷ 0x36 ∷ 0x34 ∷
      0x1C ∷ 0x00 ∷ 0x00 ∷ 0x00 ∷ 0x26 ∷ 0x00 ∷ 0x00 ∷ 0x00 ∷ 0x01 ∷ 0x00 ∷ 0x00 ∷ 0x00 ∷ 0xC6 ∷ 0xFF ∷ 0xFF ∷ 0xFF ∷
      0x00 ∷ 0x00 ∷ 0x00 ∷ 0x00 ∷ 0xA1 ∷ 0xAA ∷ 0xAA ∷ 0x2A ∷ 0x00 ∷ 0x00 ∷ 0x00 ∷ 0x00 ∷ 0x00 ∷ 0x00 ∷ 0x00 ∷ 0x00 ∷ []
  -- its format chunk is that of the small file
  pub first-format : take 48 (drop 48 (head_of (stereo 4294967238))) ≡ take 48 (drop 12 (head_of (stereo 288)))
  -- the data chunk's own size is then all ones, also where the payload would fit
  pub first_field : drop 96 (head_of (stereo 4294967238)) ≡ 0x64 ∷ 0x61 ∷ 0x74 ∷ 0x61 ∷ 0xFF ∷ 0xFF ∷ 0xFF ∷ 0xFF ∷ []
  -- 2^63 + 1 bytes, an odd count of whole mono frames: the pad byte is in the size and not in the payload
  pub huge : take 28 (drop 20 (head_of (mono (2 ^ 63 + 1)))) ≡
      0x62 ∷ 0x00 ∷ 0x00 ∷ 0x00 ∷ 0x00 ∷ 0x00 ∷ 0x00 ∷ 0x80 ∷ 0x01 ∷ 0x00 ∷ 0x00 ∷ 0x00 ∷ 0x00 ∷ 0x00 ∷ 0x00 ∷ 0x80 ∷
      0xAB ∷ 0xAA ∷ 0xAA ∷ 0xAA ∷ 0xAA ∷ 0xAA ∷ 0xAA ∷ 0x2A ∷ 0x00 ∷ 0x00 ∷ 0x00 ∷ 0x00 ∷ []

-- rates by the bits of their `f64`: 48000, 1 and the next below it, 1.5, both sides of 4294967295, -48000, the zeros, infinity, not-a-number
pub record RateFigures : Type 0 where
  pub usual : whole_rate (rate_of 0x40E7700000000000) ≡ 48000
  pub one : whole_rate (rate_of 0x3FF0000000000000) ≡ 1
  pub below_one : whole_rate (rate_of 0x3FEFFFFFFFFFFFFF) ≡ 0
  pub fraction : whole_rate (rate_of 0x3FF8000000000000) ≡ 0
  pub largest : whole_rate (rate_of 0x41EFFFFFFFE00000) ≡ 4294967295
  pub above : whole_rate (rate_of 0x41EFFFFFFFE00001) ≡ 0
  pub too_large : whole_rate (rate_of 0x41F0000000000000) ≡ 0
  pub negative : whole_rate (rate_of 0xC0E7700000000000) ≡ 0
  pub none : whole_rate (rate_of 0) ≡ 0
  pub minus-none : whole_rate (rate_of 0x8000000000000000) ≡ 0
  pub infinite : whole_rate (rate_of 0x7FF0000000000000) ≡ 0
  pub no_number : whole_rate (rate_of 0x7FF8000000000000) ≡ 0

abbrev pub most_labels : List ℕ
most_labels = 1 ∷ 2 ∷ 3 ∷ 4 ∷ 5 ∷ 6 ∷ 7 ∷ 8 ∷ 9 ∷ 10 ∷ 11 ∷ 12 ∷ 13 ∷ 14 ∷ 15 ∷ 16 ∷ 17 ∷ 18 ∷ []

-- `lpcm` of so many channels, with these flags, bytes per packet and bits, at this rate
abbrev pub format_of : ℕ → ℕ → ℕ → ℕ → ℕ → AudioFormat
format_of rate flags packet channels bits =
    record {
      sample_rate = rate_of rate;
      format_id = 0x6C70636D;
      format_flags = flags;
      bytes_per_packet = packet;
      frames_per_packet = 1;
      channels_per_frame = channels;
      bits_per_channel = bits;
    }

-- 24-bit integers at 48000
abbrev pub wide : ℕ → AudioFormat
wide channels = format_of 0x40E7700000000000 0 (3 * channels) channels 24

-- mono at a rate
abbrev pub mono_at : ℕ → AudioFormat
mono_at rate = format_of rate 2 3 1 24

-- the header's numbers, each beside one that is not given
pub record MakingFigures : Type 0 where
  pub made : making_number (wide 2) (1 ∷ 2 ∷ []) 12 ≡ 0
  -- WrongWidth: floats, bits, bytes per packet, no channel, and a byte more than whole frames; also where NotForWave would follow
  pub floats : making_number (format_of 0x40E7700000000000 1 6 2 24) (1 ∷ 2 ∷ []) 12 ≡ 27
  pub bits : making_number (format_of 0x40E7700000000000 0 6 2 20) (1 ∷ 2 ∷ []) 12 ≡ 27
  pub packet : making_number (format_of 0x40E7700000000000 0 8 2 24) (1 ∷ 2 ∷ []) 12 ≡ 27
  pub no-channel : making_number (wide 0) [] 0 ≡ 27
  pub part : making_number (wide 2) (1 ∷ 2 ∷ []) 15 ≡ 27
  pub first : making_number (wide 2) [] 15 ≡ 27
  -- NotForWave: labels
  pub no-labels : making_number (wide 2) [] 12 ≡ 29
  pub too_few : making_number (wide 2) (1 ∷ []) 12 ≡ 29
  pub too_many : making_number (wide 1) (1 ∷ 2 ∷ []) 12 ≡ 29
  pub descending : making_number (wide 2) (2 ∷ 1 ∷ []) 12 ≡ 29
  pub twice : making_number (wide 2) (2 ∷ 2 ∷ []) 12 ≡ 29
  pub below : making_number (wide 2) (0 ∷ 1 ∷ []) 12 ≡ 29
  pub highest : making_number (wide 2) (17 ∷ 18 ∷ []) 12 ≡ 0
  pub above : making_number (wide 2) (18 ∷ 19 ∷ []) 12 ≡ 29
  pub all : making_number (wide 18) most_labels 54 ≡ 0
  -- its rate; then the bytes of a second, 4294967295 and three more; then the size of an RF64 file, 2^64 - 4 and 2^64
  pub no-rate : making_number (mono_at 0x3FF8000000000000) (3 ∷ []) 3 ≡ 29
  pub second : making_number (mono_at 0x41D5555555400000) (3 ∷ []) 3 ≡ 0
  pub more-a-second : making_number (mono_at 0x41D5555555800000) (3 ∷ []) 3 ≡ 29
  pub size : making_number (wide 1) (3 ∷ []) 18446744073709551516 ≡ 0
  pub more : making_number (wide 1) (3 ∷ []) 18446744073709551519 ≡ 29
  -- label n is bit n - 1
  pub mask : mask_of (1 ∷ 2 ∷ 3 ∷ 4 ∷ 5 ∷ 6 ∷ []) ≡ 0x3F
  pub last_bit : mask_of (18 ∷ []) ≡ 0x20000
  pub all-bits : mask_of most_labels ≡ 0x3FFFF

-- a file of one mono sample, with this mask and this last byte
abbrev pub tiny : ℕ → ℕ → List ℕ
tiny mask last =
    0x52 ∷ 0x49 ∷ 0x46 ∷ 0x46 ∷ 0x40 ∷ 0x00 ∷ 0x00 ∷ 0x00 ∷ 0x57 ∷ 0x41 ∷ 0x56 ∷ 0x45 ∷ 0x66 ∷ 0x6D ∷ 0x74 ∷ 0x20 ∷
    0x28 ∷ 0x00 ∷ 0x00 ∷ 0x00 ∷ 0xFE ∷ 0xFF ∷ 0x01 ∷ 0x00 ∷ 0x80 ∷ 0xBB ∷ 0x00 ∷ 0x00 ∷ 0x80 ∷ 0x32 ∷ 0x02 ∷ 0x00 ∷
    0x03 ∷ 0x00 ∷ 0x18 ∷ 0x00 ∷ 0x16 ∷ 0x00 ∷ 0x18 ∷ 0x00 ∷ mask ∷ 0x00 ∷ 0x00 ∷ 0x00 ∷ 0x01 ∷ 0x00 ∷ 0x00 ∷ 0x00 ∷
    0x00 ∷ 0x00 ∷ 0x10 ∷ 0x00 ∷ 0x80 ∷ 0x00 ∷ 0x00 ∷ 0xAA ∷ 0x00 ∷ 0x38 ∷ 0x9B ∷ 0x71 ∷ 0x64 ∷ 0x61 ∷ 0x74 ∷ 0x61 ∷
    0x03 ∷ 0x00 ∷ 0x00 ∷ 0x00 ∷ 0x01 ∷ 0x02 ∷ 0x03 ∷ last ∷ []

-- it is read; another pad byte, none, a byte after it, two bits for one channel, and no byte at all are not
pub record ReadFigures : Type 0 where
  pub read : wave_read (tiny 4 0) ≡ Some (mono 3, 68)
  pub pad : wave_read (tiny 4 1) ≡ None
  pub no-pad : wave_read (take 71 (tiny 4 0)) ≡ None
  pub more : wave_read (tiny 4 0 ++ (0 ∷ [])) ≡ None
  pub two-bits : wave_read (tiny 3 0) ≡ None
  pub nothing : wave_read [] ≡ None

pub record WaveFigures : Type 0 where
  pub heads : HeadFigures
  pub rates : RateFigures
  pub making : MakingFigures
  pub reading : ReadFigures
