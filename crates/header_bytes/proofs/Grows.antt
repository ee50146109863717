-- How the file being made grows: audio goes to the end of the open file, and eight bytes in its size field close it.
use mathlib.Core.Path.{◌≡◌, sym, ◌∙◌, ap}
use mathlib.Core.Bool.{true, false}
use mathlib.Core.List.{List, ◌++◌, append_assoc}
use Prim.Native.Nat.{ℕ, ◌+◌}
use lib.ListN.{length, take, drop}
use lib.Seq.{take-append-add, drop-append-add}
use native.Mathlib.Nat.{add_assoc}
use Rattle.byte_order.specs.Big.{big_bytes}
use Rattle.byte_order.specs.Splice.{splice}
use Rattle.format.specs.declared.AudioFormat.{AudioFormat}
use Rattle.layout.specs.declared.ChannelLayout.{ChannelLayout}
use Rattle.reading.specs.Types.{'data', edit_size, type_size}
use Rattle.reading.specs.Grammar.{front, data_chunk, bytes_of, size_position_of}
use Rattle.header_bytes.specs.Made.{layout_chunks, made}
use Rattle.header_bytes.proofs.Made.{made_bytes}

module _ (f : AudioFormat) (layout : ChannelLayout) (ls : List ℕ) where
  abbrev pre : List ℕ
  pre = front f (layout_chunks layout ls)

  -- more audio
  pub grows : (audio more : List ℕ) → bytes_of (made true f layout ls (audio ++ more)) ≡ bytes_of (made true f layout ls audio) ++ more
  grows audio more =
      made_bytes true f layout ls (audio ++ more)
      ∙ sym (append_assoc pre (data_chunk true 0 audio) more)
      ∙ ap (λ (x : List ℕ). x ++ more) (sym (made_bytes true f layout ls audio))

  -- the closing size
  closes-chunk : (audio : List ℕ) → splice (pre ++ data_chunk true 0 audio) (length pre + type_size) (big_bytes 8 (edit_size + length audio)) ≡ pre ++ data_chunk false 0 audio
  closes-chunk audio =
      let open-chunk = data_chunk true 0 audio in
      let t : take (length pre + type_size) (pre ++ open-chunk) ≡ pre ++ 'data' = take-append-add pre open-chunk type_size in
      let d : drop (length pre + type_size + 8) (pre ++ open-chunk) ≡ big_bytes edit_size 0 ++ audio = rw add_assoc (drop-append-add pre open-chunk 12) in
      rw (t, d) (rw (append_assoc, append_assoc))

  pub closes : (audio : List ℕ) → splice (bytes_of (made true f layout ls audio)) (size_position_of (made true f layout ls audio)) (big_bytes 8 (edit_size + length audio)) ≡ bytes_of (made false f layout ls audio)
  closes audio =
      ap (λ (x : List ℕ). splice x (length pre + type_size) (big_bytes 8 (edit_size + length audio))) (made_bytes true f layout ls audio)
      ∙ closes-chunk audio
      ∙ sym (made_bytes false f layout ls audio)
