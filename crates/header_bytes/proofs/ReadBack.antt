-- The file being made is read back as it was made.
use mathlib.Core.Path.{◌≡◌, refl, sym, ◌∙◌, ap}
use mathlib.Core.Bool.{Bool, true}
use mathlib.Core.List.{List, [], ◌++◌, append_assoc}
use Prim.Native.Nat.{ℕ, ◌+◌}
use native.Mathlib.Omega.{arith}
use lib.ListN.{length, drop, length-append}
use lib.Seq.{take-length, drop_at}
use Rattle.byte_order.specs.Big.{big_bytes}
use Rattle.format.specs.declared.AudioFormat.{AudioFormat}
use Rattle.layout.specs.declared.ChannelLayout.{ChannelLayout}
use Rattle.reading.specs.Types.{'data', edit_size}
use Rattle.reading.specs.Grammar.{front, chunk_header, data_size, data_chunk, bytes_of, values_of, chunks_of}
use Rattle.header_bytes.specs.Made.{layout_chunks, made, header_bytes, start_of}
use Rattle.header_bytes.specs.ReadBack.{ReadBack}
use Rattle.header_bytes.proofs.Made.{made-accepted, made_bytes, header-length}

module _ (f : AudioFormat) (layout : ChannelLayout) (ls : List ℕ) where
  -- what stands before the data chunk, by the length of the header
  before-data : length (front f (layout_chunks layout ls)) + 16 ≡ start_of layout ls
  unfolding header_bytes bytes_of
  before-data = sym (length-append (front f (layout_chunks layout ls)) (data_chunk true 0 [])) ∙ header-length f layout ls

  -- the audio stands after the data chunk's header and edit count
  audio-there : (is_open : Bool) (audio : List ℕ) → drop (start_of layout ls) (bytes_of (made is_open f layout ls audio)) ≡ audio
  audio-there is_open audio =
      let pre = front f (layout_chunks layout ls) in
      let head = chunk_header 'data' (data_size is_open audio) ++ big_bytes edit_size 0 in
      let e : pre ++ (head ++ audio) ≡ (pre ++ head) ++ audio = sym (append_assoc pre head audio) in
      ap (drop (start_of layout ls)) (made_bytes is_open f layout ls audio ∙ e) ∙ drop_at (pre ++ head) audio (start_of layout ls) (length-append pre head ∙ before-data)

pub read_back : ReadBack
unfolding values_of
read_back is_open f layout ls audio t r l z =
    let c = made is_open f layout ls audio in
    let b = before-data f layout ls in
    let s : (values_of c).data_start ≡ start_of layout ls = omega (arith, b) in (
      values_of c,
      chunks_of c,
      made-accepted is_open f layout ls audio t r l z,
      record {
        format = refl;
        start = s;
        field = omega (arith, b);
        payload = refl;
        state = refl;
        there = rw (s, audio-there f layout ls is_open audio) (take-length audio);
      },
    )
