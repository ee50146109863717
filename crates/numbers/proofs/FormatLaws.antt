-- A format and its numbers: it takes as many places whether it is there or not, they fit, and it comes back from them.
use Rattle.std.proofs.Common.{Option, Some, None}
use mathlib.Core.Path.{◌≡◌, refl}
use mathlib.Core.Bool.{true}
use lib.ListN.{length}
use borrow.Author.Tests.{lt-ltb}
use Rattle.byte_order.specs.Rate.{rate_of, bits_of_rate}
use Rattle.byte_order.proofs.RateRoundTrip.{rate-back}
use Rattle.format.specs.Desc.{Typed}
use Rattle.format.specs.declared.AudioFormat.{AudioFormat}
use Rattle.numbers.specs.FormatNumbers.{format_numbers}
use Rattle.numbers.specs.Words.{is_word}

pub length-format : (f : Option AudioFormat) → length (format_numbers f) ≡ 8
length-format None = refl
length-format (Some f) = refl

-- a format comes back from its numbers
abbrev pub again : AudioFormat → AudioFormat
again f =
    record {
      sample_rate = rate_of (bits_of_rate f.sample_rate);
      format_id = f.format_id;
      format_flags = f.format_flags;
      bytes_per_packet = f.bytes_per_packet;
      frames_per_packet = f.frames_per_packet;
      channels_per_frame = f.channels_per_frame;
      bits_per_channel = f.bits_per_channel;
    }

pub format_back : (f : AudioFormat) → Typed f → again f ≡ f
format_back f t =
    let e = rate-back f.sample_rate t.rate in
    λ i. record {
      sample_rate = e i;
      format_id = f.format_id;
      format_flags = f.format_flags;
      bytes_per_packet = f.bytes_per_packet;
      frames_per_packet = f.frames_per_packet;
      channels_per_frame = f.channels_per_frame;
      bits_per_channel = f.bits_per_channel;
    }

-- six of its numbers are of 32 bits
pub words : (f : AudioFormat) → Typed f
    → (is_word f.format_id ≡ true) × (is_word f.format_flags ≡ true) × (is_word f.bytes_per_packet ≡ true)
    × (is_word f.frames_per_packet ≡ true) × (is_word f.channels_per_frame ≡ true) × (is_word f.bits_per_channel ≡ true)
words f y =
    (lt-ltb _ _ y.id, lt-ltb _ _ y.flags, lt-ltb _ _ y.packet, lt-ltb _ _ y.frames, lt-ltb _ _ y.channels, lt-ltb _ _ y.bits)
