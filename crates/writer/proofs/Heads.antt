-- The header of a record: what a sound record says of it, and a slice that it stands in.
use Rattle.std.proofs.Common.{Option, Some, None}
use mathlib.Core.Path.{◌≡◌, refl, sym, ◌∙◌, ap}
use mathlib.Core.Bool.{true, false}
use mathlib.Core.List.{List}
use Prim.Native.Nat.{ℕ, ◌≤◌}
use native.Mathlib.Omega.{arith}
use lib.ListN.{length, take}
use lib.Seq.{length-take-le}
use borrow.Author.Tests.{leb-true, not-true}
use Rattle.byte_order.specs.Rate.{not_aNumber}
use Rattle.byte_order.specs.Splice.{splice}
use Rattle.byte_order.proofs.Laws.{length-splice}
use Rattle.byte_order.proofs.Places.{values-there}
use Rattle.format.specs.Flags.{endianness_for, same_order}
use Rattle.format.specs.declared.AudioFormat.{AudioFormat}
use Rattle.layout.specs.Known.{are_known}
use Rattle.layout.specs.Setting.{label_places}
use Rattle.layout.specs.declared.ChannelLayout.{ChannelLayout}
use Rattle.layout.specs.declared.ChannelLayout.TheVariants.{Described}
use Rattle.header_bytes.specs.Made.{header_bytes, start_of}
use Rattle.header_bytes.specs.Put.{longest_header, header_in}
use Rattle.header_bytes.proofs.Made.{header-length}
use Rattle.header_bytes.proofs.Parts.{fits, header-in, header-small}
use Rattle.refusals.specs.Numbers.{is_absent}
use Rattle.refusals.specs.Sound.{rate_sound, layout_sound_as}
use Rattle.writer.specs.Header.{header_with, header_bytes_of}
use Rattle.writer.specs.Record.{labels_of}
use Rattle.writer.specs.Sound.{format_sound, layout_sound, sound_alone}
use Rattle.writer.specs.declared.CAFWriter.{CAFWriter}
use Rattle.writer.proofs.Tests.{two, true-false}
use Rattle.writer.proofs.Facts.{alone}

-- a described layout's labels are as many as the record says
pub described-few : (w : CAFWriter) → sound_alone w ≡ true → w.layout ≡ Described → w.label_count ≤ label_places
unfolding layout_sound
described-few w s e =
    let l : layout_sound_as Described w.label_count w.labels ≡ true = ap (λ (x : ChannelLayout). layout_sound_as x w.label_count w.labels) (sym e) ∙ (alone w s).layout in
    leb-true w.label_count label_places (two _ (are_known (take w.label_count w.labels)) l).0

-- the rate of a sound record's format is a number
pub rate-number : (w : CAFWriter) (f : AudioFormat) → w.format ≡ Some f → format_sound w ≡ true → not_aNumber f.sample_rate ≡ false
unfolding format_sound
rate-number w f e h =
    let r = (two (rate_sound w.format) (same_order w.endianness (endianness_for w.format)) h).0 in
    not-true (not_aNumber f.sample_rate) (sym (ap rate_sound e) ∙ r)

-- the header of a record with a format
pub header_of : (w : CAFWriter) (f : AudioFormat) → w.format ≡ Some f → header_bytes_of w ≡ header_bytes f w.layout (labels_of w)
unfolding header_bytes_of
header_of w f e = ap (λ (m : Option AudioFormat). header_with m w.layout (labels_of w)) e

-- a format that is not absent
pub present : (m : Option AudioFormat) → is_absent m ≡ false → (f : AudioFormat) × (m ≡ Some f)
present None e = absurd (true-false e)
present (Some f) e = (f, refl)

-- the header is as long as where the data start
pub header-start : (w : CAFWriter) → is_absent w.format ≡ false → length (header_bytes_of w) ≡ start_of w.layout (labels_of w)
header-start w e =
    let p = present w.format e in
    ap length (header_of w p.0 p.1) ∙ header-length p.0 w.layout (labels_of w)

-- a slice with the header of this format, layout and labels at its start
pub record Filled (top last : List ℕ) (n : ℕ) : Type 0 where
  pub within : n ≤ length last
  pub many : n ≡ length (take n last)
  pub is : take n last ≡ top

pub filled : (f : AudioFormat) (layout : ChannelLayout) (ls space last : List ℕ) (n : ℕ) → length space ≡ longest_header → length ls ≤ label_places → not_aNumber f.sample_rate ≡ false
    → n ≡ length (header_in (length space) f layout ls) → last ≡ splice space 0 (header_in (length space) f layout ls) → Filled (header_bytes f layout ls) last n
filled f layout ls space last n l few rate many put =
    let top = header_bytes f layout ls in
    let put_is = header-in (length space) f layout ls (fits (length space) f ls (omega arith) few rate) in
    let e : n ≡ length top = many ∙ ap length put_is in
    let is : last ≡ splice space 0 top = put ∙ ap (λ (x : List ℕ). splice space 0 x) put_is in
    let small = header-small f layout ls few in
    let k : length last ≡ length space = ap length is ∙ length-splice space 0 top (omega arith) in
    record {
      within = omega arith;
      many = sym (length-take-le n last (omega arith));
      is = ap (λ (x : List ℕ). take n x) is ∙ ap (λ (m : ℕ). take m (splice space 0 top)) e ∙ values-there space 0 top (omega arith);
    }
