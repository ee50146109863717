-- A big-endian record stays one.
use mathlib.Core.Path.{◌≡◌, refl, ◌∙◌}
use mathlib.Core.Bool.{Bool, true, false, cond}
use mathlib.Core.List.{List, []}
use Prim.Native.Nat.{ℕ}
use lib.Dec.{eqb, lit<}
use lib.ListN.{length}
use lib.Ieee.{Float}
use borrow.Author.Tests.{eqb-true}
use Rattle.answers.specs.Numbers.{done, bad_rate, packet_too_big, little_retired}
use Rattle.byte_order.specs.Rate.{not_aNumber}
use Rattle.format.specs.Flags.{is_little}
use Rattle.format.specs.Packet.{is_packet_too_big}
use Rattle.format.specs.Setting.{pcm_format, format_number}
use Rattle.format.specs.declared.PCMDataType.TheVariants.{SignedInteger}
use Rattle.format.specs.declared.Endianness.{Endianness}
use Rattle.format.specs.declared.Endianness.TheVariants.{BigEndian, LittleEndian}
use Rattle.layout.specs.Search.{layout_from}
use Rattle.layout.specs.Setting.{tag_number, labels_number}
use Rattle.layout.specs.declared.ChannelLayout.{ChannelLayout}
use Rattle.layout.specs.declared.ChannelLayout.TheVariants.{NoLayout, Tagged, Described}
use Rattle.pcm.specs.Packing.{packed}
use Rattle.writer.specs.Outcome.{Outcome, stores, unchanged, unless_refused}
use Rattle.writer.specs.Record.{with_format, with_layout, with_header, with_data, as_finished, with_group, with_overview}
use Rattle.writer.specs.Header.{header_bytes_of, header_number, header_call}
use Rattle.writer.specs.Data.{data_number, data_call, samples_number, samples_call}
use Rattle.writer.specs.Finish.{finish_number, final_size, finish_call}
use Rattle.writer.specs.Settings.{setting_number, first, with_layout_of, with_labels, format_call, tag_call, labels_call, configure_call, group_number, group_call}
use Rattle.writer.specs.Overview.{overview_number, overview_of, overview_call}
use Rattle.writer.specs.declared.CAFWriter.{CAFWriter}
use Rattle.writer.proofs.Tests.{pass, true-false}
use Rattle.kept.specs.Big.{StaysBig, BigStays}
use Rattle.kept.proofs.KeptSettings.{setting-allowed}

-- a call: refused, or what it makes of the record
by : (number : ℕ) (w : CAFWriter) (o : Outcome) → (number ≡ done → StaysBig w o) → StaysBig w (unless_refused number w o)
by number w o make h = go (eqb number done) refl
  where
    go : (b : Bool) → eqb number done ≡ b → (cond b o (unchanged number w)).after.endianness ≡ BigEndian
    go true e = make (eqb-true number done e) h
    go false e = h

-- a format that is set is big-endian
set-big : (w : CAFWriter) (rate : Float) (channels bits : ℕ) (e : Endianness) → setting_number w (format_number rate channels bits e) ≡ done → e ≡ BigEndian
set-big w rate channels bits e n =
    let rest : ℕ = cond (not_aNumber rate) bad_rate (cond (is_packet_too_big bits channels) packet_too_big done) in
    is-big e (pass (is_little e) little_retired rest (lit< tt) (setting-allowed w (format_number rate channels bits e) n).2).0
  where
    is-big : (e : Endianness) → is_little e ≡ false → e ≡ BigEndian
    is-big BigEndian h = refl
    is-big LittleEndian h = absurd (true-false h)

layout-order : (w : CAFWriter) (layout : ChannelLayout) (ls : List ℕ) → (with_layout_of w layout ls).endianness ≡ w.endianness
layout-order w NoLayout ls = refl
layout-order w (Tagged tag) ls = refl
layout-order w Described ls = refl

finish-big : (w : CAFWriter) → StaysBig w (cond w.finished (unchanged done w) (stores w.size_position (final_size w) (as_finished w)))
finish-big w h = go w.finished
  where
    go : (b : Bool) → (cond b (unchanged done w) (stores w.size_position (final_size w) (as_finished w))).after.endianness ≡ BigEndian
    go true = h
    go false = h

pub big-stays : BigStays
unfolding header_call data_call samples_call finish_call format_call tag_call labels_call configure_call group_call overview_call
big-stays =
    record {
      begun = refl;
      header = λ w room. by (header_number w room) w (stores 0 (header_bytes_of w) (with_header w (length (header_bytes_of w)))) (λ n h. h);
      bytes = λ w room bs. by (data_number w room (length bs)) w (stores w.file_len bs (with_data w (length bs))) (λ n h. h);
      samples = λ w room xs. let bs = packed w.endianness xs in by (samples_number w room (length bs)) w (stores w.file_len bs (with_data w (length bs))) (λ n h. h);
      finish = λ w room. by (finish_number w room) w (cond w.finished (unchanged done w) (stores w.size_position (final_size w) (as_finished w))) (λ n. finish-big w);
      format = λ w rate channels bits t e.
          by (setting_number w (format_number rate channels bits e)) w (stores 0 [] (with_format w (pcm_format rate channels bits t e) e)) (λ n h. set-big w rate channels bits e n);
      tag = λ w tag. by (setting_number w (tag_number tag)) w (stores 0 [] (with_layout w (Tagged tag) [])) (λ n h. h);
      labels = λ w ls channels. by (setting_number w (labels_number ls channels)) w (stores 0 [] (with_labels w ls channels)) (λ n h. layout-order w (layout_from ls channels) ls ∙ h);
      configure = λ w rate channels bits ls.
          let v = with_format w (pcm_format rate channels bits SignedInteger BigEndian) BigEndian in
          by (setting_number w (first (format_number rate channels bits BigEndian) (labels_number ls channels))) w (stores 0 [] (with_labels v ls channels))
          (λ n h. layout-order v (layout_from ls channels) ls);
      group = λ w g. by (group_number w) w (stores 0 [] (with_group w g)) (λ n h. h);
      overview = λ w buf. by (overview_number w (length buf)) w (stores w.file_len (overview_of w buf) (with_overview w (length (overview_of w buf)))) (λ n h. h);
    }
