-- The numbers of a reading's answer, as they go to a lent array. The first is always the count of chunk headers met.
use Rattle.std.specs.Prelude.{ℕ, cond, List, [], ◌∷◌, ◌++◌, eqb}
use Rattle.answers.specs.Numbers.{done}
use Rattle.reading.specs.Shapes.{PlainAnswer, Found, NotRead, StrictAnswer, Accepted, Rejected}
use Rattle.reading.specs.declared.StrictInfo.{StrictInfo}
use Rattle.numbers.specs.FormatNumbers.{flag_number, audio_numbers, format_numbers, order_number, audio_low}
use Rattle.numbers.specs.Words.{at}

-- 01, Numbers given back: a refused reading has its count and nothing else
abbrev pub plain_numbers : PlainAnswer → List ℕ
plain_numbers (Found info k) =
    (k ∷ format_numbers info.format)
    ++ (order_number info.endianness ∷ info.size_position ∷ info.data_start ∷ [])
plain_numbers (NotRead number k) = k ∷ []

abbrev pub strict_numbers : StrictAnswer → List ℕ
strict_numbers (Accepted v k) =
    (k ∷ audio_numbers v.format)
    ++ (v.size_position ∷ v.data_start ∷ v.payload ∷ flag_number v.«open» ∷ v.frames ∷ [])
strict_numbers (Rejected number k) = k ∷ []

-- how many numbers an accepted file has
abbrev pub plain_places : ℕ
plain_places = 12

abbrev pub strict_places : ℕ
strict_places = 13

-- the strict answer that a number and an array stand for: 0 is an accepted file, whose values stand after the count
abbrev pub values_in : List ℕ → StrictInfo
values_in ns =
    record {
      format = audio_low ns;
      size_position = at ns 8;
      data_start = at ns 9;
      payload = at ns 10;
      «open» = eqb (at ns 11) 1;
      frames = at ns 12;
    }

abbrev pub strict_of : ℕ → List ℕ → StrictAnswer
strict_of number ns = cond (eqb number done) (Accepted (values_in ns) (at ns 0)) (Rejected number (at ns 0))
