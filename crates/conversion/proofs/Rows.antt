-- A conversion answers by its rows.
use mathlib.Core.Path.{◌≡◌, refl, sym, ap, ◌∙◌, subst}
use mathlib.Core.Bool.{Bool, true, false, cond}
use mathlib.Core.List.{List}
use Prim.Native.Nat.{ℕ}
use lib.Dec.{ltb, eqb}
use borrow.Author.Tests.{eqb-true, eqb-false, ltb-true, ltb-false, eq-eqb, ne_eqb, lt-ltb, le-ltb}
use Rattle.answers.specs.Numbers.{done, no_room_left, not_closed, wrong_width, not_for_wave}
use Rattle.reading.specs.Strict.{strict}
use Rattle.reading.specs.declared.StrictInfo.{StrictInfo}
use Rattle.reading.specs.Shapes.{StrictAnswer, Accepted, Rejected}
use Rattle.wave.specs.Making.{making_number}
use Rattle.wave.specs.Table.{HeadGives}
use Rattle.wave.proofs.Rows.{head-exactly}
use Rattle.conversion.specs.Said.{chan_of, layout_number, labels_of}
use Rattle.conversion.specs.Conversion.{file_length, first_of, accepted_number, number_told, converted}
use Rattle.conversion.specs.Table.{Good, WaveGives}
use Rattle.conversion.specs.Claims.{WaveExactly}

told : (number length : ℕ) → (number_told number length).number ≡ number
told number length = go (eqb number done) refl
  where
    go : (b : Bool) → eqb number done ≡ b → (number_told number length).number ≡ number
    go true e = rw e (sym (eqb-true number done e))
    go false e = rw e

module _ (s : List ℕ) (room : ℕ) (v : StrictInfo) (k : ℕ) (accepted : strict s ≡ Accepted v k) where
  abbrev layout : ℕ
  layout = layout_number (chan_of s) v.format.channels_per_frame

  abbrev making : ℕ
  making = making_number v.format (labels_of (chan_of s)) v.payload

  abbrev all : ℕ
  all = file_length v.payload

  good : layout ≡ done → Good s v
  good e = record { chunks = k; accepted = accepted; layout = e }

  -- where the film is closed: by the header's number, and then by the room
  by-making : layout ≡ done → v.«open» ≡ false → (number : ℕ) → HeadGives v.format (labels_of (chan_of s)) v.payload number
      → WaveGives s room (first_of number (cond (ltb room all) no_room_left done))
  by-making l o number (HeadGives.other_width w) = WaveGives.other_width v (good l) o w
  by-making l o number (HeadGives.not-sayable w n) = WaveGives.not-sayable v (good l) o w n
  by-making l o number (HeadGives.made w n) = go (ltb room all) refl
    where
      go : (b : Bool) → ltb room all ≡ b → WaveGives s room (cond b no_room_left done)
      go true e = WaveGives.no_room v (good l) o w n (ltb-true room all e)
      go false e = WaveGives.made v (good l) o w n (ltb-false room all e)

  accepted-gives : WaveGives s room (accepted_number v (chan_of s) room)
  unfolding accepted_number
  accepted-gives = by (eqb layout done) refl v.«open» refl
    where
      by : (l : Bool) → eqb layout done ≡ l → (o : Bool) → v.«open» ≡ o
          → WaveGives s room (cond l (cond o not_closed (first_of making (cond (ltb room all) no_room_left done))) layout)
      by false x o y = WaveGives.by_layout v k accepted (eqb-false layout done x)
      by true x true y = WaveGives.not-closed v (good (eqb-true layout done x)) y
      by true x false y = by-making (eqb-true layout done x) y making ((head-exactly v.format (labels_of (chan_of s)) v.payload making).0 refl)

wave-gives : (s : List ℕ) (room : ℕ) → WaveGives s room (converted s (strict s) room).number
wave-gives s room = go (strict s) refl
  where
    go : (a : StrictAnswer) → strict s ≡ a → WaveGives s room (converted s a room).number
    go (Rejected number k) e = WaveGives.by-strict number k e
    go (Accepted v k) e =
        subst (WaveGives s room) (sym (told (accepted_number v (chan_of s) room) (file_length v.payload))) (accepted-gives s room v k e)

module _ (s : List ℕ) (room : ℕ) where
  -- of a film that is accepted the number is `accepted_number`
  of : (v : StrictInfo) (k number : ℕ) → strict s ≡ Accepted v k → accepted_number v (chan_of s) room ≡ number → (converted s (strict s) room).number ≡ number
  of v k number e n =
      ap (λ (a : StrictAnswer). (converted s a room).number) e ∙ told (accepted_number v (chan_of s) room) (file_length v.payload) ∙ n

  -- a closed one that the readings accept, by the header's number
  closed : (v : StrictInfo) (number : ℕ) (g : Good s v) → v.«open» ≡ false → HeadGives v.format (labels_of (chan_of s)) v.payload number
      → (converted s (strict s) room).number ≡ first_of number (cond (ltb room (file_length v.payload)) no_room_left done)
  unfolding accepted_number
  closed v number g o h =
      of v g.chunks _ g.accepted
      (rw (eq-eqb _ done g.layout, o, (head-exactly v.format (labels_of (chan_of s)) v.payload number).1 h))

  wave-row : (number : ℕ) → WaveGives s room number → (converted s (strict s) room).number ≡ number
  unfolding accepted_number
  wave-row number (WaveGives.by-strict n k e) = ap (λ (a : StrictAnswer). (converted s a room).number) e
  wave-row number (WaveGives.by_layout v k e n) = of v k _ e (rw (ne_eqb _ done n))
  wave-row number (WaveGives.not-closed v g o) = of v g.chunks _ g.accepted (rw (eq-eqb _ done g.layout, o))
  wave-row number (WaveGives.other_width v g o w) = closed v wrong_width g o (HeadGives.other_width w)
  wave-row number (WaveGives.not-sayable v g o w n) = closed v not_for_wave g o (HeadGives.not-sayable w n)
  wave-row number (WaveGives.no_room v g o w n r) = closed v done g o (HeadGives.made w n) ∙ rw (lt-ltb room (file_length v.payload) r)
  wave-row number (WaveGives.made v g o w n r) = closed v done g o (HeadGives.made w n) ∙ rw (le-ltb room (file_length v.payload) r)

pub wave-exactly : WaveExactly
wave-exactly s room number = (λ e. subst (WaveGives s room) e (wave-gives s room), wave-row s room number)
