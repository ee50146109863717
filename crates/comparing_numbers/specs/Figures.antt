-- 02, T-12: small films compared, with every number written out, so that a place, a byte order, a limit or an order of refusals that is changed
-- in every definition alike is not so here. The theorem `compare-figures` of proofs/ says that all hold.
use Rattle.std.specs.Prelude.{ℕ, ◌≡◌, List, [], ◌∷◌, ◌++◌, length, take, replicate}
use Rattle.difference.specs.Compared.{compared, lent_after}
use Rattle.comparing_numbers.specs.Told.{compared_number, compared_numbers}

-- a chunk of fewer than 256 bytes, after its type
abbrev pub sized : List ℕ → List ℕ
sized body = 0 ∷ 0 ∷ 0 ∷ 0 ∷ 0 ∷ 0 ∷ 0 ∷ length body ∷ body

abbrev pub rate-48000 : List ℕ
rate-48000 = 0x40 ∷ 0xe7 ∷ 0x70 ∷ 0 ∷ 0 ∷ 0 ∷ 0 ∷ 0 ∷ []

abbrev pub rate-44100 : List ℕ
rate-44100 = 0x40 ∷ 0xe5 ∷ 0x88 ∷ 0x80 ∷ 0 ∷ 0 ∷ 0 ∷ 0 ∷ []

-- flags, bytes and frames per packet, channels, bits
abbrev pub film : List ℕ → ℕ → ℕ → ℕ → ℕ → ℕ → List ℕ → List ℕ → List ℕ
film rate flags packet frames channels bits layout audio =
    0x63 ∷ 0x61 ∷ 0x66 ∷ 0x66 ∷ 0 ∷ 1 ∷ 0 ∷ 0 ∷
    0x64 ∷ 0x65 ∷ 0x73 ∷ 0x63 ∷
    (sized
    (rate ++
    0x6c ∷ 0x70 ∷ 0x63 ∷ 0x6d ∷ 0 ∷ 0 ∷ 0 ∷ flags ∷ 0 ∷ 0 ∷ 0 ∷ packet ∷ 0 ∷ 0 ∷ 0 ∷ frames ∷ 0 ∷ 0 ∷ 0 ∷ channels ∷ 0 ∷ 0 ∷ 0 ∷ bits ∷ [])
    ++ layout ++ 0x64 ∷ 0x61 ∷ 0x74 ∷ 0x61 ∷ sized (0 ∷ 0 ∷ 0 ∷ 0 ∷ audio))

-- a layout by tag, for so many channels: Stereo for two
abbrev pub tagged : ℕ → List ℕ
tagged channels = 0x63 ∷ 0x68 ∷ 0x61 ∷ 0x6e ∷ sized (0 ∷ 0x65 ∷ 0 ∷ channels ∷ 0 ∷ 0 ∷ 0 ∷ 0 ∷ 0 ∷ 0 ∷ 0 ∷ 0 ∷ [])

-- four frames and a byte, big-endian
abbrev pub one : List ℕ
one =
    film rate-48000 0 6 1 2 24 (tagged 2)
    (0 ∷ 0 ∷ 1 ∷ 0xff ∷ 0xff ∷ 0xff ∷ 0 ∷ 0 ∷ 2 ∷ 0 ∷ 0 ∷ 3 ∷ 9 ∷ 9 ∷ 9 ∷ 8 ∷ 8 ∷ 8 ∷ 5 ∷ 5 ∷ 5 ∷ 6 ∷ 6 ∷ 6 ∷ 7 ∷ [])

-- three frames and two bytes, little-endian. The first frame has the same samples; then the second channel differs in the high byte, and in
-- the last frame the first channel in the low one and the second in the middle one
abbrev pub two : List ℕ
two =
    film rate-44100 2 6 2 2 24 []
    (1 ∷ 0 ∷ 0 ∷ 0xff ∷ 0xff ∷ 0xff ∷ 2 ∷ 0 ∷ 0 ∷ 3 ∷ 0 ∷ 1 ∷ 8 ∷ 9 ∷ 9 ∷ 8 ∷ 7 ∷ 8 ∷ 7 ∷ 8 ∷ [])

-- one frame, with these bytes after it
abbrev pub short : List ℕ → List ℕ
short rest = film rate-48000 0 6 1 2 24 [] (0 ∷ 0 ∷ 1 ∷ 0xff ∷ 0xff ∷ 0xff ∷ rest)

abbrev pub turned : List ℕ
turned = film rate-48000 2 6 1 2 24 [] (1 ∷ 0 ∷ 0 ∷ 0xff ∷ 0xff ∷ 0xff ∷ [])

abbrev pub narrow : List ℕ
narrow = film rate-48000 0 4 1 2 16 [] []

abbrev pub mono : List ℕ
mono = film rate-48000 0 3 1 1 24 [] []

abbrev pub misfit : List ℕ
misfit = film rate-48000 0 6 1 2 24 (tagged 3) []

-- the number, and what is told
abbrev pub told : List ℕ → List ℕ → ℕ → List ℕ
told s t room = compared_number (compared s t room) ∷ compared_numbers (compared s t room)

pub record CompareFigures : Type 0 where
  -- 0, no file; rate, flags and frames per packet; the layouts; frame 1; a frame more in the first; the rest
  pub all : told one two 2 ≡ 0 ∷ 0 ∷ 1 ∷ 0 ∷ 1 ∷ 0 ∷ 1 ∷ 0 ∷ 0 ∷ 1 ∷ 1 ∷ 1 ∷ 1 ∷ 0 ∷ 1 ∷ []
  pub counts : lent_after one two (replicate 3 7) ≡ 1 ∷ 2 ∷ 7 ∷ []
  pub back : told two one 2 ≡ 0 ∷ 0 ∷ 1 ∷ 0 ∷ 1 ∷ 0 ∷ 1 ∷ 0 ∷ 0 ∷ 1 ∷ 1 ∷ 1 ∷ 0 ∷ 1 ∷ 1 ∷ []
  pub counts-back : lent_after two one (replicate 3 7) ≡ 1 ∷ 2 ∷ 7 ∷ []
  pub itself : told one one 2 ≡ replicate 15 0
  pub counts-of-itself : lent_after one one (replicate 2 7) ≡ 0 ∷ 0 ∷ []
  -- byte order alone: the flags, and no sample
  pub turned_round : told (short []) turned 2 ≡ 0 ∷ 0 ∷ 0 ∷ 0 ∷ 1 ∷ 0 ∷ 0 ∷ 0 ∷ 0 ∷ 0 ∷ 0 ∷ 0 ∷ 0 ∷ 0 ∷ 0 ∷ []
  -- bytes after the last whole frame
  pub rest : told (short (7 ∷ [])) (short (8 ∷ [])) 2 ≡ replicate 14 0 ++ 1 ∷ []
  -- a number and the file that it is of: the strict reading's and T-03's of the first, and of the second
  pub first-cut : told (take 7 one) (take 70 two) 2 ≡ 1 ∷ 1 ∷ []
  pub first-layout : told misfit (take 70 two) 2 ≡ 22 ∷ 1 ∷ []
  pub second-cut : told narrow (take 70 two) 2 ≡ 8 ∷ 2 ∷ []
  pub second-layout : told narrow misfit 2 ≡ 22 ∷ 2 ∷ []
  -- the width of the first, and of the second; the channels; the room
  pub first_width : told narrow narrow 2 ≡ 27 ∷ 1 ∷ []
  pub second-width : told mono narrow 0 ≡ 27 ∷ 2 ∷ []
  pub channels : told one mono 0 ≡ 30 ∷ 0 ∷ []
  pub no_room : told one two 1 ≡ 14 ∷ 0 ∷ []
  pub as_it_was : lent_after one two (7 ∷ []) ≡ 7 ∷ []
