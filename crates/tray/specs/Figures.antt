-- 02, T-10: one small tray, read and made, and the most clips. The bytes and numbers are written out, so that a width, an order, a limit or
-- a place that is changed in every definition alike is not so here. The theorem `tray-figures` of proofs/ says that all hold.
use Rattle.std.specs.Prelude.{ℕ, ◌≡◌, List, [], ◌∷◌, ◌++◌, replicate, take}
use Rattle.tray.specs.Reading.{tray_number, tray_into}
use Rattle.tray.specs.Making.{making_number, making_into}

-- a file of 74 bytes: 48000 Hz, two channels of 24 bits, closed, with one frame
abbrev pub film : List ℕ
film =
    0x63 ∷ 0x61 ∷ 0x66 ∷ 0x66 ∷ 0 ∷ 1 ∷ 0 ∷ 0 ∷
    0x64 ∷ 0x65 ∷ 0x73 ∷ 0x63 ∷ 0 ∷ 0 ∷ 0 ∷ 0 ∷ 0 ∷ 0 ∷ 0 ∷ 0x20 ∷
    0x40 ∷ 0xe7 ∷ 0x70 ∷ 0 ∷ 0 ∷ 0 ∷ 0 ∷ 0 ∷ 0x6c ∷ 0x70 ∷ 0x63 ∷ 0x6d ∷ 0 ∷ 0 ∷ 0 ∷ 0 ∷
    0 ∷ 0 ∷ 0 ∷ 6 ∷ 0 ∷ 0 ∷ 0 ∷ 1 ∷ 0 ∷ 0 ∷ 0 ∷ 2 ∷ 0 ∷ 0 ∷ 0 ∷ 0x18 ∷
    0x64 ∷ 0x61 ∷ 0x74 ∷ 0x61 ∷ 0 ∷ 0 ∷ 0 ∷ 0 ∷ 0 ∷ 0 ∷ 0 ∷ 10 ∷ 0 ∷ 0 ∷ 0 ∷ 0 ∷
    0 ∷ 0 ∷ 1 ∷ 0xff ∷ 0xff ∷ 0xff ∷ []

abbrev pub field : ℕ → List ℕ
field n = 0 ∷ 0 ∷ 0 ∷ 0 ∷ 0 ∷ 0 ∷ 0 ∷ n ∷ []

-- a tray of 110 bytes with two rows over the file: without its last byte, and as this row says. The table ends at 36
abbrev pub two : ℕ → ℕ → List ℕ
two start size = 0 ∷ 0 ∷ 0 ∷ 2 ∷ (field 36 ++ field 73 ++ field start ++ field size ++ film)

pub record TrayFigures : Type 0 where
  -- number, chunk count, payload, frames; DataPastEnd keeps its chunk count; the ninth place is as it was
  pub read : tray_into (two 36 74) (replicate 9 7) ≡ 8 ∷ 2 ∷ 0 ∷ 0 ∷ 0 ∷ 2 ∷ 6 ∷ 1 ∷ 7 ∷ []
  -- two clips take eight places; a refusal writes nothing
  pub fits : tray_number (two 36 74) 8 ≡ 0
  pub no_room : tray_number (two 36 74) 7 ≡ 14
  pub as_it_was : tray_into (two 36 74) (replicate 7 7) ≡ replicate 7 7
  -- inside the table, past the tray, the table cut, the count cut
  pub inside : tray_number (two 35 74) 8 ≡ 28
  pub past : tray_number (two 36 75) 8 ≡ 28
  pub cut-table : tray_number (take 35 (two 36 74)) 8 ≡ 28
  pub cut-count : tray_number (0 ∷ 0 ∷ 0 ∷ []) 0 ≡ 28
  -- a tray of no clips
  pub none : tray_number (0 ∷ 0 ∷ 0 ∷ 0 ∷ []) 0 ≡ 0
  -- 4,097 clips are too many, whatever follows. (That 4,096 are not is said by TrayReadBack.)
  pub too_many : (rest : List ℕ) (room : ℕ) → tray_number (0 ∷ 0 ∷ 16 ∷ 1 ∷ rest) room ≡ 28
  -- two clips of one and two bytes take 39 places
  pub made : making_into (5 ∷ 6 ∷ 7 ∷ []) (1 ∷ 2 ∷ []) (replicate 40 9) ≡
      0 ∷ 0 ∷ 0 ∷ 2 ∷ (field 36 ++ field 1 ++ field 37 ++ field 2 ++ (5 ∷ 6 ∷ 7 ∷ 9 ∷ []))
  pub no_place : making_number (5 ∷ 6 ∷ 7 ∷ []) (1 ∷ 2 ∷ []) 38 ≡ 14
  pub other-sum : making_number (5 ∷ 6 ∷ 7 ∷ []) (1 ∷ 1 ∷ []) 40 ≡ 28
