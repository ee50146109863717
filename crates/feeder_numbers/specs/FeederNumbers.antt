-- Document 02, T-01 and T-05: the feeding record as C keeps it between calls: an array of 18 numbers of 64 bits.
use Rattle.std.specs.Prelude.{ℕ, cond, ◌&&◌, List, [], ◌∷◌, ◌++◌, length, take, drop, replicate, eqb, Option, Some, None}
use Rattle.std.specs.Option.{option_map}
use Rattle.byte_order.specs.Big.{big_at, big_bytes}
use Rattle.feeder.specs.declared.Phase.{Phase}
use Rattle.feeder.specs.declared.Phase.TheVariants.{FileHeader, FirstHeader, Desc, Header, Skipping, Edit, OpenData, ClosedData, Refused}
use Rattle.feeder.specs.declared.DataChunk.{DataChunk}
use Rattle.feeder.specs.declared.Feeder.{Feeder}
use Rattle.numbers.specs.Words.{at, is_word, all_words}
use Rattle.numbers.specs.FormatNumbers.{audio_numbers, audio_of}

-- which phase it is. A header and a skipped body have one number before the data and one after them
abbrev pub header_kind : Option DataChunk → ℕ
header_kind None = 3
header_kind (Some chunk) = 8

abbrev pub skipping_kind : Option DataChunk → ℕ
skipping_kind None = 4
skipping_kind (Some chunk) = 9

abbrev pub phase_kind : Phase → ℕ
phase_kind FileHeader = 0
phase_kind FirstHeader = 1
phase_kind Desc = 2
phase_kind (Header f d) = header_kind d
phase_kind (Skipping f d left) = skipping_kind d
phase_kind (Edit f size) = 5
phase_kind (OpenData f start) = 6
phase_kind (ClosedData f chunk left) = 10
phase_kind (Refused number) = 7

-- the format that it holds; zeros where it holds none
abbrev pub no_format : List ℕ
no_format = replicate 7 0

abbrev pub phase_format : Phase → List ℕ
phase_format FileHeader = no_format
phase_format FirstHeader = no_format
phase_format Desc = no_format
phase_format (Header f d) = audio_numbers f
phase_format (Skipping f d left) = audio_numbers f
phase_format (Edit f size) = audio_numbers f
phase_format (OpenData f start) = audio_numbers f
phase_format (ClosedData f chunk left) = audio_numbers f
phase_format (Refused number) = no_format

-- the number beside the format: the bytes to come, or the refusal; 0 where there is none
abbrev pub phase_number : Phase → ℕ
phase_number FileHeader = 0
phase_number FirstHeader = 0
phase_number Desc = 0
phase_number (Header f d) = 0
phase_number (Skipping f d left) = left
phase_number (Edit f size) = 0
phase_number (OpenData f start) = 0
phase_number (ClosedData f chunk left) = left
phase_number (Refused number) = number

-- the size field of a data chunk that ends before the file does, or may; 0 without one
abbrev pub passed_size : Option DataChunk → ℕ
passed_size None = 0
passed_size (Some chunk) = chunk.size

abbrev pub phase_size : Phase → ℕ
phase_size FileHeader = 0
phase_size FirstHeader = 0
phase_size Desc = 0
phase_size (Header f d) = passed_size d
phase_size (Skipping f d left) = passed_size d
phase_size (Edit f size) = size
phase_size (OpenData f start) = 0
phase_size (ClosedData f chunk left) = chunk.size
phase_size (Refused number) = 0

-- where the data start; 0 before they do
abbrev pub passed_start : Option DataChunk → ℕ
passed_start None = 0
passed_start (Some chunk) = chunk.start

abbrev pub phase_start : Phase → ℕ
phase_start FileHeader = 0
phase_start FirstHeader = 0
phase_start Desc = 0
phase_start (Header f d) = passed_start d
phase_start (Skipping f d left) = passed_start d
phase_start (Edit f size) = 0
phase_start (OpenData f start) = start
phase_start (ClosedData f chunk left) = chunk.start
phase_start (Refused number) = 0

-- places 0 to 7, 8 to 13, and 14 to 17: the 32 bytes of a piece, eight in a number
unfoldable pub feeder_numbers : Feeder → List ℕ
feeder_numbers r =
    (phase_kind r.phase ∷ phase_format r.phase)
    ++ (phase_number r.phase ∷ phase_size r.phase ∷ phase_start r.phase ∷ r.count ∷ r.total ∷ r.chunks ∷ [])
    ++ (big_at 8 r.held 0 ∷ big_at 8 r.held 8 ∷ big_at 8 r.held 16 ∷ big_at 8 r.held 24 ∷ [])

abbrev pub feeder_places : ℕ
feeder_places = 18

-- the closed data chunk that an array tells
abbrev pub chunk_of : List ℕ → DataChunk
chunk_of ns = record { size = at ns 9; start = at ns 10 }

-- and the phase, where there is one of its number, and a refusal's number fits 32 bits
unfoldable pub phase_of : List ℕ → Option Phase
phase_of ns =
    cond (eqb (at ns 0) 0) (Some FileHeader)
    (cond (eqb (at ns 0) 1) (Some FirstHeader)
    (cond (eqb (at ns 0) 2) (Some Desc)
    (cond (eqb (at ns 0) 3) (Some (Header (audio_of ns) None))
    (cond (eqb (at ns 0) 4) (Some (Skipping (audio_of ns) None (at ns 8)))
    (cond (eqb (at ns 0) 5) (Some (Edit (audio_of ns) (at ns 9)))
    (cond (eqb (at ns 0) 6) (Some (OpenData (audio_of ns) (at ns 10)))
    (cond (eqb (at ns 0) 7) (cond (is_word (at ns 8)) (Some (Refused (at ns 8))) None)
    (cond (eqb (at ns 0) 8) (Some (Header (audio_of ns) (Some (chunk_of ns))))
    (cond (eqb (at ns 0) 9) (Some (Skipping (audio_of ns) (Some (chunk_of ns)) (at ns 8)))
    (cond (eqb (at ns 0) 10) (Some (ClosedData (audio_of ns) (chunk_of ns) (at ns 8)))
    None))))))))))

abbrev pub held_in : List ℕ → List ℕ
held_in ns = big_bytes 8 (at ns 14) ++ big_bytes 8 (at ns 15) ++ big_bytes 8 (at ns 16) ++ big_bytes 8 (at ns 17)

-- the record that an array stands for. It stands for one where it has the record's places, a phase that there is, and what the record
-- holds in 32 bits fits there
unfoldable pub feeder_of : List ℕ → Option Feeder
feeder_of ns =
    cond (eqb (length ns) feeder_places && all_words (take 6 (drop 2 ns)))
    (option_map (λ phase. record { phase = phase; held = held_in ns; count = at ns 11; total = at ns 12; chunks = at ns 13 }) (phase_of ns))
    None

-- the array after a record was put into it: only one of a record's places takes it
abbrev pub feeder_put : List ℕ → Feeder → List ℕ
feeder_put ns r = cond (eqb (length ns) feeder_places) (feeder_numbers r) ns
