-- The places of an array that are not looked at: those of a format that is absent, and that of the tag where the layout is not told by one.
-- In the numbers of a record they are 0.
use Rattle.std.specs.Prelude.{◌≡◌, ℕ, ◌<◌, ◌^◌, true, cond, List, [], ◌∷◌, replicate, eqb}
use Rattle.refusals.specs.Sound.{rate_sound}
use Rattle.numbers.specs.Words.{at}
use Rattle.numbers.specs.Lent.{put_at}
use Rattle.record_numbers.specs.RecordNumbers.{maybe_of, is_record, record_of, record_numbers}

abbrev pub no_format : List ℕ → List ℕ
no_format ns = cond (eqb (at ns 0) 0) (put_at ns 0 (replicate 8 0)) ns

abbrev pub no_tag : List ℕ → List ℕ
no_tag ns = cond (eqb (at ns 9) 1) ns (put_at ns 10 (0 ∷ []))

-- 0 in both
unfoldable pub tidied : List ℕ → List ℕ
tidied ns = no_tag (no_format ns)

-- an array of numbers of 64 bits that stands for a record is then that record's own, but for a rate that is a not-a-number, which has many
-- patterns of bits
abbrev pub TidiedIs : Type 0
TidiedIs = (ns : List ℕ) → is_record ns ≡ true → at ns 1 < 2 ^ 64 → rate_sound (maybe_of ns) ≡ true → tidied ns ≡ record_numbers (record_of ns)
