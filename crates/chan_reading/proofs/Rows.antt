-- The reader answers by the rows of the table, and by no others.
use mathlib.Core.Path.{◌≡◌, refl, sym, ◌∙◌, ap}
use mathlib.Core.Bool.{Bool, true, false, cond, not, true≢false}
use mathlib.Core.List.{List}
use Prim.Native.Nat.{ℕ}
use native.Mathlib.Omega.{arith}
use lib.Dec.{ltb, eqb}
use borrow.Author.Tests.{ltb-true, ltb-false, eqb-true, eqb-false, not-true, not-false, lt-ltb, le-ltb, eq-eqb, ne_eqb}
use Rattle.answers.specs.Numbers.{done, cut_short, bad_layout, no_room_left}
use Rattle.layout.specs.Chan.{chan_size}
use Rattle.layout.specs.Tags as tag
use Rattle.reading.proofs.Choice.{either}
use Rattle.chan_reading.specs.Read.{misfits, numbers_for, chan_number, head_of, answer_for}
use Rattle.chan_reading.specs.Table.{tag_in, count_in, Goes, ChanGives}
use Rattle.chan_reading.specs.Claims.{ChanExactly}
use Rattle.chan_reading.specs.Shapes.{ChanAnswer, Given, Refused}

-- where nothing misfits the tag goes with the channels, and the other way round
goes : (t n channels : ℕ) → misfits t n channels ≡ false → Goes t n channels
goes t n channels e = by (eqb t tag.UseChannelDescriptions) (eqb t tag.UseChannelBitmap) refl refl e
  where
    by : (a b : Bool) → eqb t tag.UseChannelDescriptions ≡ a → eqb t tag.UseChannelBitmap ≡ b
        → cond a (not (eqb n channels)) (cond b false (not (eqb (tag.channels t) channels))) ≡ false → Goes t n channels
    by true b x y e = Goes.described (eqb-true t tag.UseChannelDescriptions x) (eqb-true n channels (not-false (eqb n channels) e))
    by false true x y e = Goes.by-bitmap (eqb-true t tag.UseChannelBitmap y)
    by false false x y e =
        Goes.counted (eqb-false t tag.UseChannelDescriptions x) (eqb-false t tag.UseChannelBitmap y) (eqb-true (tag.channels t) channels (not-false (eqb (tag.channels t) channels) e))

fits : (t n channels : ℕ) → Goes t n channels → misfits t n channels ≡ false
fits t n channels (Goes.described d c) = rw (eq-eqb t tag.UseChannelDescriptions d, eq-eqb n channels c)
fits t n channels (Goes.by-bitmap b) =
    let d : eqb t tag.UseChannelDescriptions ≡ false = ne_eqb t tag.UseChannelDescriptions (λ z. let y : ⊥ = omega arith in y) in
    rw (d, eq-eqb t tag.UseChannelBitmap b)
fits t n channels (Goes.counted d b c) = rw (ne_eqb t tag.UseChannelDescriptions d, ne_eqb t tag.UseChannelBitmap b, eq-eqb (tag.channels t) channels c)

module _ (head : List ℕ) (size channels room : ℕ) where
  abbrev t : ℕ
  t = tag_in head

  abbrev n : ℕ
  n = count_in head

  -- the answer for a number
  abbrev answer : ℕ → ChanAnswer
  answer number = cond (eqb number done) (Given (head_of head)) (Refused number)

  abbrev Row : ℕ → Type 0
  Row number = ChanGives head size channels room (answer number)

  misfit-row : size ≡ chan_size n → misfits t n channels ≡ true → Row bad_layout
  misfit-row z e = by (eqb t tag.UseChannelDescriptions) (eqb t tag.UseChannelBitmap) refl refl e
    where
      by : (a b : Bool) → eqb t tag.UseChannelDescriptions ≡ a → eqb t tag.UseChannelBitmap ≡ b
          → cond a (not (eqb n channels)) (cond b false (not (eqb (tag.channels t) channels))) ≡ true → Row bad_layout
      by true b x y e = ChanGives.other-count z (eqb-true t tag.UseChannelDescriptions x) (eqb-false n channels (not-true (eqb n channels) e))
      by false true x y e = absurd (true≢false (sym e))
      by false false x y e =
          ChanGives.other_half z (eqb-false t tag.UseChannelDescriptions x) (eqb-false t tag.UseChannelBitmap y) (eqb-false (tag.channels t) channels (not-true (eqb (tag.channels t) channels) e))

  gives : ChanGives head size channels room (answer_for head size channels room)
  unfolding answer_for chan_number
  gives =
      either Row (ltb size (chan_size 0)) (λ h. ChanGives.short (ltb-true size (chan_size 0) h))
      (λ h. let w = ltb-false size (chan_size 0) h in
      either Row (not (eqb size (chan_size n))) (λ z. ChanGives.other-size w (eqb-false size (chan_size n) (not-true (eqb size (chan_size n)) z)))
      (λ z. let l = eqb-true size (chan_size n) (not-false (eqb size (chan_size n)) z) in
      either Row (misfits t n channels) (misfit-row l)
      (λ m. let g = goes t n channels m in
      either Row (ltb room (numbers_for n)) (λ r. ChanGives.no_room l g (ltb-true room (numbers_for n) r))
      (λ r. ChanGives.given l g (ltb-false room (numbers_for n) r)))))

  -- a body that is as long as its count says
  number_is : size ≡ chan_size n → chan_number size t n channels room ≡ cond (misfits t n channels) bad_layout (cond (ltb room (numbers_for n)) no_room_left done)
  unfolding chan_number
  number_is z = rw (le-ltb size (chan_size 0) (omega arith), eq-eqb size (chan_size n) z)

  by_number : (number : ℕ) → chan_number size t n channels room ≡ number → answer_for head size channels room ≡ answer number
  unfolding answer_for
  by_number number e = ap answer e

  row : (a : ChanAnswer) → ChanGives head size channels room a → answer_for head size channels room ≡ a
  unfolding chan_number
  row a (ChanGives.given z g r) = by_number done (number_is z ∙ rw (fits t n channels g, le-ltb room (numbers_for n) r))
  row a (ChanGives.short h) = by_number cut_short (rw (lt-ltb size (chan_size 0) h))
  row a (ChanGives.no_room z g r) = by_number no_room_left (number_is z ∙ rw (fits t n channels g, lt-ltb room (numbers_for n) r))
  row a (ChanGives.other-size w z) = by_number bad_layout (rw (le-ltb size (chan_size 0) w, ne_eqb size (chan_size n) z))
  row a (ChanGives.other-count z d c) = by_number bad_layout (number_is z ∙ rw (eq-eqb t tag.UseChannelDescriptions d, ne_eqb n channels c))
  row a (ChanGives.other_half z d b c) =
      by_number bad_layout (number_is z ∙ rw (ne_eqb t tag.UseChannelDescriptions d, ne_eqb t tag.UseChannelBitmap b, ne_eqb (tag.channels t) channels c))

pub chan-exactly : ChanExactly
chan-exactly head size channels room a = (λ e. rw e at (gives head size channels room), row head size channels room a)
