-- A call that looks at the array's own numbers and changes some of them: what it promises of the record is so too.
use Rattle.std.proofs.Common.{Some, None}
use mathlib.Core.Path.{◌≡◌, refl, sym, ◌∙◌, ap}
use mathlib.Core.Bool.{Bool, true, false, cond, ◌&&◌}
use mathlib.Core.List.{List}
use Prim.Native.Nat.{ℕ, ◌+◌, ◌<◌, ◌^◌}
use native.Mathlib.Omega.{arith}
use lib.Dec.{eqb}
use lib.ListN.{length, length-take, length-drop}
use borrow.Author.Tests.{ne_eqb}
use Rattle.answers.specs.Numbers.{done, bad_writer}
use Rattle.byte_order.proofs.Laws.{splice-nil}
use Rattle.refusals.specs.Numbers.{is_absent, data_number_as, samples_number_as, finish_number_as}
use Rattle.refusals.specs.Sound.{rate_sound}
use Rattle.writer.specs.Sound.{format_sound, sound}
use Rattle.writer.specs.Data.{data_number, samples_number}
use Rattle.writer.specs.Finish.{finish_number}
use Rattle.writer.specs.Outcome.{Outcome, unless_refused, buffer_after}
use Rattle.writer.specs.declared.CAFWriter.{CAFWriter}
use Rattle.writer.proofs.Tests.{accepted, refused, two}
use Rattle.writer.proofs.Allowed.{data-allowed}
use Rattle.writer.proofs.Facts.{sound-alone, headed}
use Rattle.numbers.specs.FormatNumbers.{audio_of}
use Rattle.numbers.specs.Words.{at}
use Rattle.record_numbers.specs.RecordNumbers.{maybe_of, labels_in, is_record, record_of, record_numbers}
use Rattle.record_numbers.specs.RecordSound.{sound_in}
use Rattle.record_numbers.proofs.Records.{is-record}
use Rattle.record_calls.specs.RecordCalls.{number_on, call_on, record_after, Called}
use Rattle.record_calls.proofs.Calls.{none-called, on-record}

-- a number that refuses what is not sound, from soundness as it is seen in the array
on-sound : (number : Bool → ℕ) (b s : Bool) → number false ≡ bad_writer → number (b && s) ≡ cond b (number s) bad_writer
on-sound number true s e = refl
on-sound number false s e = e

module _ (held : List ℕ) (room n : ℕ) where
  pub data-seen : data_number_as (sound_in held room) (eqb (at held 81) 1) (eqb (at held 76) 1) (at held 79) room n ≡ number_on held (λ w. data_number w room n)
  unfolding sound_in data_number record_of
  data-seen = on-sound (λ s. data_number_as s (eqb (at held 81) 1) (eqb (at held 76) 1) (at held 79) room n) (is_record held) (sound (record_of held) room) refl

  absent-seen : eqb (at held 0) 0 ≡ is_absent (maybe_of held)
  absent-seen = go (eqb (at held 0) 0)
    where
      go : (b : Bool) → b ≡ is_absent (cond b None (Some (audio_of held)))
      go true = refl
      go false = refl

  abbrev samples_seen : Bool → Bool → ℕ
  samples_seen absent s = samples_number_as s (eqb (at held 81) 1) (eqb (at held 76) 1) absent (at held 79) room n

  pub samples-seen : samples_seen (eqb (at held 0) 0) (sound_in held room) ≡ number_on held (λ w. samples_number w room n)
  unfolding sound_in samples_number record_of
  samples-seen =
      ap (λ (absent : Bool). samples_seen absent (sound_in held room)) absent-seen
      ∙ on-sound (samples_seen (is_absent (maybe_of held))) (is_record held) (sound (record_of held) room) refl

pub finish-seen : (held : List ℕ) (room : ℕ) → finish_number_as (sound_in held room) (eqb (at held 81) 1) (eqb (at held 76) 1) ≡ number_on held (λ w. finish_number w room)
unfolding sound_in finish_number record_of
finish-seen held room = on-sound (λ s. finish_number_as s (eqb (at held 81) 1) (eqb (at held 76) 1)) (is_record held) (sound (record_of held) room) refl

-- 0 is given for a record alone
pub number-done : (held : List ℕ) (number : CAFWriter → ℕ) → number_on held number ≡ done → (is_record held ≡ true) × (number (record_of held) ≡ done)
number-done held number e = go (is_record held) refl e
  where
    go : (b : Bool) → is_record held ≡ b → cond b (number (record_of held)) bad_writer ≡ done → (is_record held ≡ true) × (number (record_of held) ≡ done)
    go true is e = (is, e)
    go false is e = absurd (let z : ⊥ = omega arith in z)

-- a call that its number alone refuses
module _ (held buf : List ℕ) (number : CAFWriter → ℕ) (o : CAFWriter → Outcome) where
  abbrev call : CAFWriter → Outcome
  call w = unless_refused (number w) w (o w)

  pub refused-called : {r : ℕ} → r ≡ number_on held number → (r ≡ done → ⊥) → Called held buf (call_on held call) r held buf
  unfolding record_after
  refused-called {r} e h = go (is_record held) refl e
    where
      go : (b : Bool) → is_record held ≡ b → r ≡ cond b (number (record_of held)) bad_writer → Called held buf (call_on held call) r held buf
      go true is e =
          let w = record_of held in
          let no : number w ≡ done → ⊥ = λ z. h (e ∙ z) in
          rw (on-record held call is, refused (number w) w (o w) no) (record { number = e; kept = rw (ne_eqb (number w) done no); stored = sym (splice-nil buf 0) })
      go false is e = rw e (none-called held call buf is)

  pub changed-called : {after last : List ℕ} → is_record held ≡ true → number (record_of held) ≡ done → (o (record_of held)).number ≡ done
      → after ≡ record_numbers (o (record_of held)).after → last ≡ buffer_after (o (record_of held)) buf → Called held buf (call_on held call) done after last
  unfolding record_after
  changed-called is e d k b =
      let w = record_of held in
      rw (on-record held call is, accepted (number w) w (o w) e) (record { number = sym d; kept = rw d k; stored = b })

-- what an accepted call of n bytes has of its array
pub rate-seen : (held : List ℕ) → format_sound (record_of held) ≡ true → rate_sound (maybe_of held) ≡ true
unfolding format_sound record_of
rate-seen held f = (two (rate_sound (maybe_of held)) _ f).0

pub grow-allowed : (held : List ℕ) (room n : ℕ) → is_record held ≡ true → data_number (record_of held) room n ≡ done
    → (is_record held ≡ true) × (rate_sound (maybe_of held) ≡ true) × (at held 79 + n < 2 ^ 64) × (at held 80 + n < 2 ^ 64)
unfolding record_of
grow-allowed held room n is e =
    let w = record_of held in
    let h = data-allowed w room n e in
    let s = sound-alone w room h.is-sound in
    let p = headed w h.header s.places in
    (is, rate-seen held s.format, omega (arith, h.in-file), omega (arith, h.in-file, p.count))

pub labels-long : (held : List ℕ) → is_record held ≡ true → length (labels_in held) ≡ 64
labels-long held is = let l = (is-record held is).places in simp (length-take, length-drop) (omega arith)
