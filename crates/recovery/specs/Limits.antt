-- 01's limits, each from both sides, and its sentence on soundness clause by clause, as one table of tests. The numbers are written out, so
-- that a limit which is changed in a definition and in the code alike is not so here. The theorem `limits` of proofs/ says that all hold.
use Rattle.std.specs.Prelude.{ℕ, Bool, true, false, not, List, [], ◌∷◌, ◌++◌, replicate, take, eqb, None}
use Rattle.byte_order.specs.Big.{big_bytes}
use Rattle.byte_order.specs.Same.{exactly}
use Rattle.byte_order.specs.Rate.{rate_of}
use Rattle.format.specs.Desc.{desc_body}
use Rattle.format.specs.Setting.{pcm_format}
use Rattle.format.specs.declared.AudioFormat.{AudioFormat}
use Rattle.format.specs.declared.PCMDataType.TheVariants.{SignedInteger}
use Rattle.format.specs.declared.Endianness.{Endianness}
use Rattle.format.specs.declared.Endianness.TheVariants.{BigEndian, LittleEndian}
use Rattle.layout.specs.Chan.{chan_body}
use Rattle.layout.specs.Known.{known_label, known_tag}
use Rattle.layout.specs.Setting.{padded, labels_number}
use Rattle.layout.specs.declared.ChannelLayout.TheVariants.{NoLayout, Tagged, Described}
use Rattle.reading.specs.Answers.{plain_number, strict_number, strict_count}
use Rattle.reading.specs.Grammar.{file_header, chunk_header, chunk}
use Rattle.reading.specs.Plain.{plain}
use Rattle.reading.specs.Strict.{strict}
use Rattle.reading.specs.Types.{'desc', 'data'}
use Rattle.writer.specs.Record.{fresh, with_format, with_places, with_layout, as_finished, stats_of}
use Rattle.writer.specs.Resume.{resume_call}
use Rattle.writer.specs.Sound.{sound_alone, sound}
use Rattle.writer.specs.declared.CAFWriter.{CAFWriter}
use Rattle.recovery.specs.Figures.{rate48000, is_closed_with}

-- a record without format and layout: with a header or without, and its places
abbrev pub placed : Bool → ℕ → ℕ → ℕ → ℕ → CAFWriter
placed headed position start len count =
    record {
      format = None;
      endianness = BigEndian;
      layout = NoLayout;
      labels = padded [];
      label_count = 0;
      has_header = headed;
      size_position = position;
      data_start = start;
      file_len = len;
      data_count = count;
      finished = false;
      group = 0;
      overview = false;
    }

abbrev pub in_order : Endianness → AudioFormat
in_order e = pcm_format rate48000 2 24 SignedInteger e

-- a file header, a description, and the header of a chunk of this size
abbrev pub skipping : ℕ → List ℕ
skipping size = file_header ++ chunk 'desc' (desc_body (in_order BigEndian)) ++ chunk_header (0x66 ∷ 0x72 ∷ 0x65 ∷ 0x65 ∷ []) size

-- a file header, a description, and a data chunk of this size with these bytes after its edit count: 68 bytes, and those
abbrev pub sized : ℕ → List ℕ → List ℕ
sized size after = file_header ++ chunk 'desc' (desc_body (in_order BigEndian)) ++ chunk_header 'data' size ++ big_bytes 4 0 ++ after

abbrev pub strict_of : List ℕ → ℕ
strict_of s = strict_number (strict s)

unfoldable pub limit_rows : List Bool
limit_rows =
    -- a file of 2^63 - 1 bytes, and one more; in a buffer that holds it, and one byte less
    sound_alone (placed true 56 68 9223372036854775807 0) ∷
    not (sound_alone (placed true 56 68 9223372036854775808 0)) ∷
    sound (placed true 56 68 68 0) 68 ∷
    not (sound (placed true 56 68 68 0) 67) ∷
    -- the data start: 24 at the least, 12 after the size field, within the file
    sound_alone (placed true 12 24 24 0) ∷
    not (sound_alone (placed true 11 23 24 0)) ∷
    not (sound_alone (placed true 12 25 30 0)) ∷
    not (sound_alone (placed true 56 68 67 0)) ∷
    -- the data count fits after it
    sound_alone (placed true 56 68 70 2) ∷
    not (sound_alone (placed true 56 68 70 3)) ∷
    -- without a header: no length, no count, not finished
    sound_alone fresh ∷
    not (sound_alone (placed false 0 0 1 0)) ∷
    not (sound_alone (placed false 0 0 0 1)) ∷
    not (sound_alone (as_finished fresh)) ∷
    -- the rate is a number, and the byte order is the format's, big with none
    sound_alone (with_format fresh (in_order LittleEndian) LittleEndian) ∷
    not (sound_alone (with_format fresh (in_order LittleEndian) BigEndian)) ∷
    not (sound_alone (with_format fresh (in_order BigEndian) LittleEndian)) ∷
    not (sound_alone (with_format fresh (pcm_format (rate_of 0x7FF8_0000_0000_0000) 2 24 SignedInteger BigEndian) BigEndian)) ∷
    -- 64 labels, and 65; a label that is none; a tag, and one that is none
    sound_alone (with_layout fresh Described (replicate 64 1)) ∷
    not (sound_alone (with_places fresh Described (replicate 65 1) 65)) ∷
    not (sound_alone (with_layout fresh Described (19 ∷ []))) ∷
    sound_alone (with_layout fresh (Tagged 6619138) []) ∷
    not (sound_alone (with_layout fresh (Tagged 7) [])) ∷
    -- 17 comes ahead of 16, and only where there are as many labels as channels
    eqb (labels_number (replicate 64 1) 64) 0 ∷
    eqb (labels_number (replicate 65 1) 65) 17 ∷
    eqb (labels_number (replicate 65 1) 64) 0 ∷
    eqb (labels_number (replicate 65 19) 65) 17 ∷
    eqb (labels_number (replicate 65 19) 64) 16 ∷
    -- the first and the last of the 47 labels and of the 50 tags
    known_label 4294967295 ∷
    known_label 305 ∷
    not (known_label 306) ∷
    known_tag 0 ∷
    known_tag 9633792 ∷
    not (known_tag 9633793) ∷
    -- a description: the label, then its flags
    exactly (chan_body 0 (0x01020304 ∷ []))
    (0 ∷ 0 ∷ 0 ∷ 0 ∷ 0 ∷ 0 ∷ 0 ∷ 0 ∷ 0 ∷ 0 ∷ 0 ∷ 1 ∷ 1 ∷ 2 ∷ 3 ∷ 4 ∷ 0 ∷ 0 ∷ 0 ∷ 0 ∷ 0 ∷ 0 ∷ 0 ∷ 0 ∷ 0 ∷ 0 ∷ 0 ∷ 0 ∷ 0 ∷ 0 ∷ 0 ∷ 0 ∷ []) ∷
    -- a chunk of 2^63 - 1 bytes runs past the end; one of 2^63 is negative
    eqb (plain_number (plain (skipping 9223372036854775807))) 3 ∷
    eqb (plain_number (plain (skipping 9223372036854775808))) 4 ∷
    eqb (strict_number (strict (skipping 9223372036854775807))) 1 ∷
    eqb (strict_number (strict (skipping 9223372036854775808))) 4 ∷
    -- the file header has 8 bytes; 4 make a type, 12 a chunk header, 32 the body of a `desc`
    eqb (plain_number (plain (take 7 (sized 4 [])))) 1 ∷
    eqb (plain_number (plain (take 8 (sized 4 [])))) 3 ∷
    eqb (plain_number (plain (take 11 (sized 4 [])))) 3 ∷
    eqb (plain_number (plain (take 12 (sized 4 [])))) 1 ∷
    eqb (strict_count (strict (take 19 (sized 4 [])))) 0 ∷
    eqb (strict_count (strict (take 20 (sized 4 [])))) 1 ∷
    eqb (strict_of (take 51 (sized 4 []))) 1 ∷
    eqb (strict_of (take 52 (sized 4 []))) 3 ∷
    -- the edit count has 4: a smaller size is bad, a larger one than stands there goes past the end; of the negative ones -1 is open
    eqb (strict_of (take 67 (sized 4 []))) 1 ∷
    eqb (strict_of (sized 3 [])) 4 ∷
    is_closed_with (strict (sized 4 [])) 0 ∷
    eqb (strict_of (sized 5 [])) 8 ∷
    eqb (strict_of (sized 9223372036854775807 [])) 8 ∷
    eqb (strict_of (sized 9223372036854775808 [])) 4 ∷
    eqb (strict_of (sized 18446744073709551614 [])) 4 ∷
    eqb (strict_of (sized 18446744073709551615 [])) 0 ∷
    -- after the data: no byte, a cut chunk header of 1 to 11, a chunk
    eqb (strict_of (sized 4 (0 ∷ []))) 1 ∷
    eqb (strict_of (sized 4 (replicate 11 0))) 1 ∷
    is_closed_with (strict (sized 4 (replicate 12 0))) 0 ∷
    eqb (strict_count (strict (sized 4 (replicate 12 0)))) 3 ∷
    -- another data chunk there is SecondData, whatever its size says; and the version is looked at after `caff`
    eqb (strict_of (sized 4 (chunk_header 'data' 9223372036854775808))) 23 ∷
    eqb (strict_of (take 4 (sized 4 []) ++ replicate 4 0)) 6 ∷
    -- a resumed record ends where its file does, and begins with no frames per sample chosen (T-09)
    eqb (resume_call (sized 4 []) 68).after.file_len 68 ∷
    eqb (resume_call (sized 4 []) 68).after.group 0 ∷
    -- stats: the data count, and whether the record is finished
    eqb (stats_of (placed true 56 68 70 2)).data_count 2 ∷
    not (stats_of (placed true 56 68 70 2)).finished ∷
    (stats_of (as_finished fresh)).finished ∷
    []
