-- The 32 bytes of a format are read as that format, whatever follows them.
use mathlib.Core.Path.{◌≡◌, refl, sym, ◌∙◌, ap}
use mathlib.Core.List.{List, [], ◌++◌, append-nil}
use Prim.Native.Nat.{ℕ}
use mathlib.Core.Bool.{false}
use lib.ListN.{length}
use lib.Ieee.Bits.{is_false}
use Rattle.byte_order.specs.Big.{big_at}
use Rattle.byte_order.specs.Rate.{rate_of, bits_of_rate, not_aNumber}
use Rattle.byte_order.proofs.Laws.{kept}
use Rattle.byte_order.proofs.RateRoundTrip.{rate-back, bits_fit}
use Rattle.format.specs.Desc.{desc_size, desc_body, format_at, Typed, RateIsNumber}
use Rattle.format.specs.FormatAnswers.{desc_read}
use Rattle.format.specs.declared.AudioFormat.{AudioFormat}
use Rattle.std.proofs.Common.{Some}

pub desc-length : (f : AudioFormat) → length (desc_body f) ≡ desc_size
unfolding desc_body
desc-length f = refl

module _ (f : AudioFormat) (rest : List ℕ) (typed : Typed f) where
  pub rate-there : big_at 8 (desc_body f ++ rest) 0 ≡ bits_of_rate f.sample_rate
  unfolding desc_body
  rate-there = kept 8 (bits_of_rate f.sample_rate) [] (bits_fit f.sample_rate typed.rate)

  pub format-there : format_at (desc_body f ++ rest) 0 ≡ f
  unfolding format_at desc_body
  format-there = λ i. record {
    sample_rate = (ap rate_of rate-there ∙ rate-back f.sample_rate typed.rate) i;
    format_id = kept 4 f.format_id [] typed.id i;
    format_flags = kept 4 f.format_flags [] typed.flags i;
    bytes_per_packet = kept 4 f.bytes_per_packet [] typed.packet i;
    frames_per_packet = kept 4 f.frames_per_packet [] typed.frames i;
    channels_per_frame = kept 4 f.channels_per_frame [] typed.channels i;
    bits_per_channel = kept 4 f.bits_per_channel [] typed.bits i;
  }

  pub number-there : RateIsNumber f → not_aNumber (rate_of (big_at 8 (desc_body f ++ rest) 0)) ≡ false
  number-there number = ap not_aNumber (ap rate_of rate-there ∙ rate-back f.sample_rate typed.rate) ∙ is_false (not_aNumber f.sample_rate) number

-- `read_desc` takes back what `desc_bytes` gives
pub format-read-back : (f : AudioFormat) → Typed f → RateIsNumber f → desc_read (desc_body f) ≡ Some f
format-read-back f typed number =
    ap desc_read (sym (append-nil (desc_body f)))
    ∙ rw (number-there f [] typed number, format-there f [] typed)
