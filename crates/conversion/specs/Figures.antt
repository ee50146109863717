-- 02, T-11: one small film delivered, and each refusal beside the ones that would follow it. Bytes and numbers are written out, so that what is
-- changed in every definition alike is not so here. The theorem `conversion-figures` of proofs/ says that all hold.
use Rattle.std.specs.Prelude.{ℕ, ◌≡◌, List, [], ◌∷◌, ◌++◌, take, drop, replicate}
use Rattle.reading.specs.Strict.{strict}
use Rattle.wave.specs.Figures.{tiny}
use Rattle.conversion.specs.Conversion.{converted, converted_into}

-- 48000 Hz, one channel, so many bits, with these flags
abbrev pub opening : ℕ → ℕ → List ℕ
opening flags bits =
    0x63 ∷ 0x61 ∷ 0x66 ∷ 0x66 ∷ 0 ∷ 1 ∷ 0 ∷ 0 ∷
    0x64 ∷ 0x65 ∷ 0x73 ∷ 0x63 ∷ 0 ∷ 0 ∷ 0 ∷ 0 ∷ 0 ∷ 0 ∷ 0 ∷ 0x20 ∷
    0x40 ∷ 0xe7 ∷ 0x70 ∷ 0 ∷ 0 ∷ 0 ∷ 0 ∷ 0 ∷ 0x6c ∷ 0x70 ∷ 0x63 ∷ 0x6d ∷ 0 ∷ 0 ∷ 0 ∷ flags ∷
    0 ∷ 0 ∷ 0 ∷ 3 ∷ 0 ∷ 0 ∷ 0 ∷ 1 ∷ 0 ∷ 0 ∷ 0 ∷ 1 ∷ 0 ∷ 0 ∷ 0 ∷ bits ∷ []

-- one channel described by this label, with a bitmap that is not looked at; and the tag of a row with so many channels
abbrev pub described : ℕ → List ℕ
described label =
    0x63 ∷ 0x68 ∷ 0x61 ∷ 0x6e ∷ 0 ∷ 0 ∷ 0 ∷ 0 ∷ 0 ∷ 0 ∷ 0 ∷ 0x20 ∷
    0 ∷ 0 ∷ 0 ∷ 0 ∷ 0 ∷ 0 ∷ 0 ∷ 9 ∷ 0 ∷ 0 ∷ 0 ∷ 1 ∷
    0 ∷ 0 ∷ 0 ∷ label ∷ 0 ∷ 0 ∷ 0 ∷ 0 ∷ 0 ∷ 0 ∷ 0 ∷ 0 ∷ 0 ∷ 0 ∷ 0 ∷ 0 ∷ 0 ∷ 0 ∷ 0 ∷ 0 ∷ []

abbrev pub named : ℕ → ℕ → List ℕ
named tag channels =
    0x63 ∷ 0x68 ∷ 0x61 ∷ 0x6e ∷ 0 ∷ 0 ∷ 0 ∷ 0 ∷ 0 ∷ 0 ∷ 0 ∷ 12 ∷ 0 ∷ tag ∷ 0 ∷ channels ∷ 0 ∷ 0 ∷ 0 ∷ 0 ∷ 0 ∷ 0 ∷ 0 ∷ 0 ∷ []

-- three bytes of audio: closed, and open
abbrev pub closed : List ℕ
closed = 0x64 ∷ 0x61 ∷ 0x74 ∷ 0x61 ∷ 0 ∷ 0 ∷ 0 ∷ 0 ∷ 0 ∷ 0 ∷ 0 ∷ 7 ∷ 0 ∷ 0 ∷ 0 ∷ 0 ∷ 3 ∷ 2 ∷ 1 ∷ []

abbrev pub unfinished : List ℕ
unfinished =
    0x64 ∷ 0x61 ∷ 0x74 ∷ 0x61 ∷ 0xff ∷ 0xff ∷ 0xff ∷ 0xff ∷ 0xff ∷ 0xff ∷ 0xff ∷ 0xff ∷ 0 ∷ 0 ∷ 0 ∷ 0 ∷ 3 ∷ 2 ∷ 1 ∷ []

-- the number of a film in a slice of so many bytes
abbrev pub given : List ℕ → ℕ → ℕ
given film room = (converted film (strict film) room).number

pub record ConversionFigures : Type 0 where
  -- label 3 is bit 2; big-endian samples are turned, little-endian ones stay; what lies after the file is as it was
  pub big : converted_into (opening 0 24 ++ described 3 ++ closed) (strict (opening 0 24 ++ described 3 ++ closed)) (replicate 73 9) ≡ tiny 4 0 ++ (9 ∷ [])
  pub little : take 3 (drop 68 (converted_into (opening 2 24 ++ described 3 ++ closed) (strict (opening 2 24 ++ described 3 ++ closed)) (replicate 72 9))) ≡ 3 ∷ 2 ∷ 1 ∷ []
  pub long : (converted (opening 0 24 ++ described 3 ++ closed) (strict (opening 0 24 ++ described 3 ++ closed)) 73).length ≡ 72
  -- Mono is label 3 too, of the row's order; its tag is 100
  pub by-tag : converted_into (opening 0 24 ++ named 100 1 ++ closed) (strict (opening 0 24 ++ named 100 1 ++ closed)) (replicate 72 9) ≡ tiny 4 0
  -- 14: one byte less, and nothing is written; also for the pad byte alone
  pub fits : given (opening 0 24 ++ described 3 ++ closed) 72 ≡ 0
  pub no_room : given (opening 0 24 ++ described 3 ++ closed) 71 ≡ 14
  pub as_it_was : converted_into (opening 0 24 ++ described 3 ++ closed) (strict (opening 0 24 ++ described 3 ++ closed)) (replicate 71 9) ≡ replicate 71 9
  -- 29, where 14 would follow: no `chan`, the bitmap's tag, label 19
  pub no-chan : given (opening 0 24 ++ closed) 0 ≡ 29
  pub bitmap : given (opening 0 24 ++ named 1 0 ++ closed) 0 ≡ 29
  pub other-label : given (opening 0 24 ++ described 19 ++ closed) 0 ≡ 29
  -- 27, where 29 would
  pub other_width : given (opening 0 20 ++ closed) 0 ≡ 27
  -- 25, where 27 would
  pub not-closed : given (opening 0 20 ++ unfinished) 0 ≡ 25
  -- 22, where 25 would: the tag of two channels
  pub other-layout : given (opening 0 20 ++ named 101 2 ++ unfinished) 0 ≡ 22
  -- the strict reading's 8, where 22 would
  pub past_end : given (take 94 (opening 0 20 ++ named 101 2 ++ closed)) 0 ≡ 8
