-- A format as C sees it: numbers of 64 bits.
use Rattle.std.specs.Prelude.{ℕ, Bool, cond, List, [], ◌∷◌, replicate, Option, Some, None}
use Rattle.byte_order.specs.Rate.{rate_of, bits_of_rate}
use Rattle.format.specs.declared.AudioFormat.{AudioFormat}
use Rattle.format.specs.declared.PCMDataType.{PCMDataType}
use Rattle.format.specs.declared.PCMDataType.TheVariants.{SignedInteger, Float}
use Rattle.format.specs.declared.Endianness.{Endianness}
use Rattle.format.specs.declared.Endianness.TheVariants.{BigEndian, LittleEndian}
use Rattle.numbers.specs.Words.{at, low}

abbrev pub flag_number : Bool → ℕ
flag_number b = cond b 1 0

-- the bits of the rate and the six numbers after it, in the order of a `desc`
abbrev pub audio_numbers : AudioFormat → List ℕ
audio_numbers f =
    bits_of_rate f.sample_rate
    ∷ f.format_id
    ∷ f.format_flags
    ∷ f.bytes_per_packet
    ∷ f.frames_per_packet
    ∷ f.channels_per_frame
    ∷ f.bits_per_channel
    ∷ []

-- whether there is a format, 1 or 0, and its numbers; zeros where there is none
abbrev pub format_numbers : Option AudioFormat → List ℕ
format_numbers None = replicate 8 0
format_numbers (Some f) = 1 ∷ audio_numbers f

abbrev pub order_number : Endianness → ℕ
order_number BigEndian = 0
order_number LittleEndian = 1

-- the same choice made by a bool, and that of the samples' type
abbrev pub byte_order : Bool → Endianness
byte_order little = cond little LittleEndian BigEndian

abbrev pub sample_type : Bool → PCMDataType
sample_type is_float = cond is_float Float SignedInteger

-- the format that an array stands for, from place 1 on. Six of its numbers have to be words
abbrev pub audio_of : List ℕ → AudioFormat
audio_of ns =
    record {
      sample_rate = rate_of (at ns 1);
      format_id = at ns 2;
      format_flags = at ns 3;
      bytes_per_packet = at ns 4;
      frames_per_packet = at ns 5;
      channels_per_frame = at ns 6;
      bits_per_channel = at ns 7;
    }

-- the format of any numbers: of those that are no words the low 32 bits are taken
abbrev pub audio_low : List ℕ → AudioFormat
audio_low ns =
    record {
      sample_rate = rate_of (at ns 1);
      format_id = low ns 2;
      format_flags = low ns 3;
      bytes_per_packet = low ns 4;
      frames_per_packet = low ns 5;
      channels_per_frame = low ns 6;
      bits_per_channel = low ns 7;
    }
