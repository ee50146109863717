-- The header's function answers by its rows.
use mathlib.Core.Path.{◌≡◌, refl, sym, ◌∙◌, subst}
use mathlib.Core.Bool.{Bool, true, false, cond, not, ◌&&◌, true≢false}
use mathlib.Core.List.{List, [], ◌∷◌}
use Prim.Native.Nat.{ℕ, ◌+◌, ◌*◌, ◌%◌, ◌^◌}
use lib.Dec.{ltb, leb, eqb}
use lib.ListN.{length}
use borrow.Author.Tests.{ltb-true, leb-true, eqb-true, lt-ltb, le-leb, eq-eqb}
use Rattle.answers.specs.Numbers.{done, wrong_width, not_for_wave}
use Rattle.format.specs.Wide.{is_wide, whole_frames}
use Rattle.format.specs.declared.AudioFormat.{AudioFormat}
use Rattle.wave.specs.Rate.{whole_rate}
use Rattle.wave.specs.Mask.{label_max, ascends_from, can_carry}
use Rattle.wave.specs.Making.{wave_of, wave_fields_fit, making_number}
use Rattle.wave.specs.Table.{Whole, Ascends, Sayable, HeadGives}
use Rattle.wave.specs.Claims.{HeadExactly}
use Rattle.wave.proofs.Joined.{left-of, right_of, untrue}
use Rattle.wave.proofs.Fields.{fields_within}

ascends : (low : ℕ) (ls : List ℕ) → ascends_from low ls ≡ true → Ascends low ls
ascends low [] h = tt
ascends low (l ∷ ls) h =
    let a = ltb low l in
    let b = leb l label_max in
    let ab = left-of (a && b) (ascends_from l ls) h in
    (ltb-true low l (left-of a b ab), leb-true l label_max (right_of a b ab), ascends l ls (right_of (a && b) (ascends_from l ls) h))

ascending : (low : ℕ) (ls : List ℕ) → Ascends low ls → ascends_from low ls ≡ true
ascending low [] a = refl
ascending low (l ∷ ls) a = rw (lt-ltb low l a.0, le-leb l label_max a.1, ascending l ls a.2)

module _ (f : AudioFormat) (ls : List ℕ) (payload : ℕ) where
  abbrev channels : ℕ
  channels = f.channels_per_frame

  -- the two tests of the number
  abbrev wide : Bool
  wide = is_wide f && whole_frames channels payload

  abbrev said : Bool
  said = can_carry ls channels && wave_fields_fit (wave_of f ls payload)

  whole : wide ≡ true → Whole f payload
  whole h = record { wide = left-of (is_wide f) (whole_frames channels payload) h; frames = right_of (is_wide f) (whole_frames channels payload) h }

  is-wide : Whole f payload → wide ≡ true
  is-wide w = rw (w.wide, w.frames)

  sayable : said ≡ true → Sayable f ls payload
  sayable h =
      let c = left-of (can_carry ls channels) (wave_fields_fit (wave_of f ls payload)) h in
      let w = fields_within (wave_of f ls payload) (right_of (can_carry ls channels) (wave_fields_fit (wave_of f ls payload)) h) in
      record {
        many = eqb-true (length ls) channels (left-of (eqb (length ls) channels) (ascends_from 0 ls) c);
        ascend = ascends 0 ls (right_of (eqb (length ls) channels) (ascends_from 0 ls) c);
        rate = w.rate;
        second = w.second;
        size = w.size;
      }

  is_said : Sayable f ls payload → said ≡ true
  is_said s =
      rw (
        eq-eqb (length ls) channels s.many,
        ascending 0 ls s.ascend,
        lt-ltb 0 (whole_rate f.sample_rate) s.rate,
        lt-ltb (whole_rate f.sample_rate * (3 * channels)) (2 ^ 32) s.second,
        lt-ltb (96 + payload + payload % 2) (2 ^ 64) s.size,
      )

  head-gives : HeadGives f ls payload (making_number f ls payload)
  unfolding making_number
  head-gives = by wide refl said refl
    where
      by : (w : Bool) → wide ≡ w → (s : Bool) → said ≡ s → HeadGives f ls payload (cond (not w) wrong_width (cond (not s) not_for_wave done))
      by false x s y = HeadGives.other_width (λ h. true≢false (sym (is-wide h) ∙ x))
      by true x false y = HeadGives.not-sayable (whole x) (λ h. true≢false (sym (is_said h) ∙ y))
      by true x true y = HeadGives.made (whole x) (sayable y)

  head-row : (number : ℕ) → HeadGives f ls payload number → making_number f ls payload ≡ number
  unfolding making_number
  head-row number (HeadGives.other_width unlike) = rw (untrue wide (λ h. unlike (whole h)))
  head-row number (HeadGives.not-sayable w unlike) = rw (is-wide w, untrue said (λ h. unlike (sayable h)))
  head-row number (HeadGives.made w s) = rw (is-wide w, is_said s)

pub head-exactly : HeadExactly
head-exactly f ls payload number = (λ e. subst (HeadGives f ls payload) e (head-gives f ls payload), head-row f ls payload number)
