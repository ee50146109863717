-- The strict reading's answer comes back from its numbers.
use mathlib.Core.Path.{◌≡◌, refl, sym, ◌∙◌, ap, subst}
use mathlib.Core.Bool.{Bool, true, false}
use mathlib.Core.List.{List, [], ◌∷◌}
use Prim.Native.Nat.{ℕ, suc, ◌<◌}
use native.Mathlib.Omega.{arith}
use lib.Dec.{eqb}
use lib.ListN.{get_or, take, drop, replicate}
use borrow.Author.Tests.{eqb-true, ne_eqb, le-ltb}
use Rattle.answers.specs.Numbers.{done}
use Rattle.answers.specs.Refused.{refusal_number}
use Rattle.answers.specs.declared.refusal.Refusal.{Refusal}
use Rattle.numbers.specs.Lent.{number_given, lent_after}
use Rattle.numbers.proofs.Refused.{refused-some}
use Rattle.byte_order.specs.Splice.{splice}
use Rattle.format.specs.Desc.{Typed}
use Rattle.reading.specs.Answers.{strict_number}
use Rattle.reading.specs.Claims.{Bytes}
use Rattle.reading.specs.Grammar.{values_of}
use Rattle.reading.specs.Strict.{strict}
use Rattle.reading.specs.declared.StrictInfo.{StrictInfo}
use Rattle.reading.specs.Shapes.{StrictAnswer, Accepted, Rejected}
use Rattle.reading.proofs.Refusals.{strict-found}
use Rattle.reading.proofs.Sound.{sound}
use Rattle.numbers.specs.FormatNumbers.{audio_low}
use Rattle.numbers.specs.Words.{all_words}
use Rattle.numbers.proofs.FormatLaws.{format_back, words}
use Rattle.numbers.proofs.WordLaws.{audio-words}
use Rattle.record_numbers.proofs.RecordBack.{flag-back}
use Rattle.reading_numbers.specs.ReadingNumbers.{strict_places, strict_numbers, strict_of}
use Rattle.reading_numbers.specs.ReadingClaims.{StrictBack}

-- the elements of a slice of bytes, read one by one
pub all-bytes : (s : List ℕ) → ((i : ℕ) → get_or s i 0 < 256) → Bytes s
all-bytes [] h = tt
all-bytes (b ∷ s) h = (h 0, all-bytes s (λ i. h (suc i)))

-- an accepted file's format fits its types
format-typed : (s : List ℕ) (v : StrictInfo) (k : ℕ) → Bytes s → strict s ≡ Accepted v k → Typed v.format
unfolding values_of
format-typed s v k bytes e = let file = sound s v k bytes e in subst Typed (ap (λ (w : StrictInfo). w.format) file.3) file.1.typed

-- and no refusal has the number of success
apart : (v : StrictInfo) (k number j : ℕ) → Accepted v k ≡ Rejected number j → true ≡ false
apart v k number j e = cc

not_done : (s : List ℕ) (number k : ℕ) → strict s ≡ Rejected number k → eqb number done ≡ false
not_done s number k e = go (eqb number done) refl
  where
    go : (b : Bool) → eqb number done ≡ b → b ≡ false
    go true t = let found = strict-found s (ap strict_number e ∙ eqb-true number done t) in apart found.0 found.1 number k (sym found.2 ∙ e)
    go false t = refl

module _ (s out : List ℕ) (bytes : Bytes s) where
  abbrev told : StrictAnswer → List ℕ
  told a = splice out 0 (strict_numbers a)

  format-told : (v : StrictInfo) (k : ℕ) → Typed v.format → audio_low (told (Accepted v k)) ≡ v.format
  format-told v k t =
      let w = words v.format t in
      let all : all_words (take 6 (drop 2 (told (Accepted v k)))) ≡ true = rw (w.0, w.1, w.2, w.3, w.4, w.5) in
      audio-words (told (Accepted v k)) (omega arith) all ∙ format_back v.format t

  answer_back : (a : StrictAnswer) → strict s ≡ a → strict_of (strict_number a) (told a) ≡ a
  answer_back (Accepted v k) e =
      let format-is : audio_low (told (Accepted v k)) ≡ v.format = format-told v k (format-typed s v k bytes e) in
      λ i. Accepted (record {
        format = format-is i;
        size_position = v.size_position;
        data_start = v.data_start;
        payload = v.payload;
        «open» = flag-back v.«open» i;
        frames = v.frames;
      }) k
  answer_back (Rejected number k) e = rw (not_done s number k e)

pub strict-back : StrictBack
strict-back s out bytes room = rw (le-ltb _ _ room) (answer_back s out bytes (strict s) refl)

-- so from the numbers that the call gives and leaves in an array of its own
pub told-back : (s : List ℕ) (bytes : Bytes s) {number : ℕ} {found : List ℕ} → number ≡ number_given strict_places (replicate strict_places 0) (strict_number (strict s))
    → found ≡ lent_after strict_places (replicate strict_places 0) (strict_numbers (strict s)) → strict_of number found ≡ strict s
told-back s bytes n f = rw (n, f) (strict-back s (replicate strict_places 0) bytes (omega arith))

-- no refusal has the number of an accepted file
pub not-done : (r : Refusal) → eqb (refusal_number r) done ≡ false
not-done r = ne_eqb (refusal_number r) done (refused-some r)
