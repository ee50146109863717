-- The feeding record comes back from its numbers, and so the reading in blocks through C is the reading in blocks; and bytes that C passes over
-- are as good as fed.
use Rattle.std.proofs.Common.{Option, Some, None}
use mathlib.Core.Path.{◌≡◌, refl, sym, ◌∙◌, ap}
use mathlib.Core.Bool.{true, cond, ◌||◌, true≢false}
use mathlib.Core.List.{List, [], ◌∷◌, ◌++◌}
use Prim.Native.Nat.{ℕ, zero, suc, ◌^◌}
use native.Mathlib.Omega.{arith}
use lib.ListN.{length, take, drop, replicate}
use lib.Seq.{take_all}
use lib.Dec.{eqb}
use borrow.Author.Tests.{eq-eqb, ne_eqb, lt-ltb}
use Rattle.answers.specs.Numbers.{bad_writer, too_long}
use Rattle.byte_order.specs.Big.{big_at, big_bytes}
use Rattle.format.specs.declared.AudioFormat.{AudioFormat}
use Rattle.reading.specs.Claims.{Bytes}
use Rattle.reading.proofs.SoundBytes.{back, together}
use Rattle.feeder.specs.Record.{is_by_bytes, fresh, sound}
use Rattle.feeder.specs.End.{end}
use Rattle.feeder.specs.declared.Phase.{Phase}
use Rattle.feeder.specs.declared.Phase.TheVariants.{FileHeader, FirstHeader, Desc, Header, Skipping, Edit, OpenData, ClosedData, Refused}
use Rattle.feeder.specs.declared.Feeder.{Feeder}
use Rattle.feeder.proofs.Facts.{Facts, sound-facts, sound-tests, fresh-sound}
use Rattle.feeding.specs.Feed.{number_at, feed_bytes, feed, feed_all}
use Rattle.feeding.specs.Feed.{Fed}
use Rattle.feeder.proofs.Facts.{Facts, sound-facts, sound-tests, fresh-sound}
use Rattle.feeding.proofs.Soundness.{bytes-sound}
use Rattle.feeding.proofs.Call.{feed-is}
use Rattle.fed.proofs.Theorems.{fed-is}
use Rattle.fed.proofs.Passed.{passed-is-fed}
use Rattle.format.specs.Desc.{Typed}
use Rattle.numbers.specs.Words.{is_word, all_words}
use Rattle.numbers.specs.FormatNumbers.{audio_numbers}
use Rattle.feeder_numbers.specs.FeederNumbers.{phase_of, feeder_numbers, feeder_of}
use Rattle.feeder_calls.specs.FeederCalls.{call_on, feed_on, pass_on, passable_on, feeder_after, end_on}
use Rattle.feeder_calls.specs.FeederClaims.{feeds_on, AllBytes, FedThroughC, PassedThroughC}
use Rattle.numbers.proofs.FormatLaws.{again, format_back, words}
use Rattle.feeder_calls.proofs.FeederTyped.{TypedPhase, TypedFeeder, bytes-typed}

-- 32 bytes come back from four numbers
abbrev eights : List ℕ → List ℕ
eights h = big_bytes 8 (big_at 8 h 0) ++ big_bytes 8 (big_at 8 h 8) ++ big_bytes 8 (big_at 8 h 16) ++ big_bytes 8 (big_at 8 h 24)

held_back : (h : List ℕ) → length h ≡ 32 → Bytes h → eights h ≡ h
held_back h l b =
    let a : big_bytes 8 (big_at 8 h 0) ≡ take 8 (drop 0 h) = back 8 h 0 b (omega arith) in
    let c : big_bytes 8 (big_at 8 h 8) ≡ take 8 (drop 8 h) = back 8 h 8 b (omega arith) in
    let d : big_bytes 8 (big_at 8 h 16) ≡ take 8 (drop 16 h) = back 8 h 16 b (omega arith) in
    let e : big_bytes 8 (big_at 8 h 24) ≡ take 8 (drop 24 h) = back 8 h 24 b (omega arith) in
    (λ i. a i ++ c i ++ d i ++ e i)
    ∙ ap (λ (x : List ℕ). x ++ take 8 (drop 16 h) ++ take 8 (drop 24 h)) (together h 0 8 8)
    ∙ ap (λ (x : List ℕ). x ++ take 8 (drop 24 h)) (together h 0 16 8)
    ∙ together h 0 24 8
    ∙ take_all 32 h (omega arith)

module _ (h : List ℕ) (n t k : ℕ) (l : length h ≡ 32) (b : Bytes h) where
  abbrev at : Phase → Feeder
  at phase = record { phase = phase; held = h; count = n; total = t; chunks = k }

  -- the whole record, where its phase comes back
  with-phase : (p q : Phase) → p ≡ q → ◌≡◌ {A = Option Feeder} (Some (record { phase = p; held = eights h; count = n; total = t; chunks = k })) (Some (at q))
  with-phase p q e = let g = held_back h l b in λ i. Some (record { phase = e i; held = g i; count = n; total = t; chunks = k })

  -- and with a format
  with-format : (f : AudioFormat) (p : AudioFormat → Phase) → Typed f
      → ◌≡◌ {A = Option Feeder} (cond (all_words (take 6 (drop 1 (audio_numbers f)))) (Some (record { phase = p (again f); held = eights h; count = n; total = t; chunks = k })) None) (Some (at (p f)))
  with-format f p a = let w = words f a in rw (w.0, w.1, w.2, w.3, w.4, w.5) (with-phase (p (again f)) (p f) (ap p (format_back f a)))

  at_back : (phase : Phase) → TypedPhase phase → feeder_of (feeder_numbers (at phase)) ≡ Some (at phase)
  unfolding feeder_of feeder_numbers phase_of
  at_back FileHeader p = with-phase FileHeader FileHeader refl
  at_back FirstHeader p = with-phase FirstHeader FirstHeader refl
  at_back Desc p = with-phase Desc Desc refl
  at_back (Header f None) p = with-format f (λ x. Header x None) p
  at_back (Header f (Some chunk)) p = with-format f (λ x. Header x (Some chunk)) p
  at_back (Skipping f None m) p = with-format f (λ x. Skipping x None m) p
  at_back (Skipping f (Some chunk) m) p = with-format f (λ x. Skipping x (Some chunk) m) p
  at_back (Edit f size) p = with-format f (λ x. Edit x size) p
  at_back (OpenData f start) p = with-format f (λ x. OpenData x start) p
  at_back (ClosedData f chunk m) p = with-format f (λ x. ClosedData x chunk m) p
  at_back (Refused number) p = let w : is_word number ≡ true = lt-ltb number (2 ^ 32) p in rw w (with-phase (Refused number) (Refused number) refl)

pub numbers-back : (r : Feeder) → TypedFeeder r → feeder_of (feeder_numbers r) ≡ Some r
numbers-back r t = at_back r.held r.count r.total r.chunks t.long t.bytes r.phase t.phase

-- a sound record is not answered as an unsound one
not-unsound : (n t k : ℕ) (phase : Phase) → Facts n t k phase → number_at phase ≡ bad_writer → ⊥
not-unsound n t k FileHeader a e = omega arith
not-unsound n t k FirstHeader a e = omega arith
not-unsound n t k Desc a e = omega arith
not-unsound n t k (Header f d) a e = omega arith
not-unsound n t k (Skipping f d m) a e = omega arith
not-unsound n t k (Edit f size) a e = omega arith
not-unsound n t k (OpenData f start) a e = omega arith
not-unsound n t k (ClosedData f chunk m) a e = omega arith
not-unsound n t k (Refused number) a e = true≢false (sym a.1 ∙ ap (λ (x : ℕ). eqb x too_long || is_by_bytes x) e)

-- one call on the numbers of a record, and one on the record
module _ (r : Feeder) (s : sound r ≡ true) (t : TypedFeeder r) where
  fed-on : (block : List ℕ) → feeder_after (feeder_numbers r) (feed_on (feeder_numbers r) block) ≡ feeder_numbers (feed r block).feeder
  unfolding call_on feeder_after
  fed-on block =
      let i = feed-is r block s in
      let a = bytes-sound block r (sound-facts r s) in
      let n : (feed r block).number ≡ bad_writer → ⊥ = λ e. not-unsound _ _ _ (feed_bytes r block).phase a.facts (sym (ap (λ (x : Fed). x.number) i) ∙ e) in
      rw (numbers-back r t, ne_eqb _ _ n)

  pub ended-on : end_on (feeder_numbers r) ≡ end r
  unfolding end_on
  ended-on = rw (numbers-back r t)

-- call after call
all-on : (blocks : List (List ℕ)) (r : Feeder) → sound r ≡ true → TypedFeeder r → AllBytes blocks
    → end_on (feeds_on (feeder_numbers r) blocks) ≡ end (feed_all r blocks)
unfolding feeds_on feed_all
all-on [] r s t b = ended-on r s t
all-on (block ∷ blocks) r s t b =
    let i : (feed r block).feeder ≡ feed_bytes r block = ap (λ (x : Fed). x.feeder) (feed-is r block s) in
    let a = bytes-sound block r (sound-facts r s) in
    ap (λ (x : List ℕ). end_on (feeds_on x blocks)) (fed-on r s t block)
    ∙ all-on blocks (feed r block).feeder (rw i (sound-tests _ a)) (rw i (bytes-typed block r b.0 (sound-facts r s) t)) b.1

zeros : (n : ℕ) → Bytes (replicate n 0)
zeros zero = tt
zeros (suc n) = (omega arith, zeros n)

fresh-typed : TypedFeeder fresh
fresh-typed = record { long = refl; bytes = zeros 32; phase = tt }

pub fed-through-c : FedThroughC
fed-through-c held blocks l b =
    rw (eq-eqb _ _ l) (all-on blocks fresh (sound-tests fresh fresh-sound) fresh-typed b ∙ fed-is blocks)

pub passed-through-c : PassedThroughC
unfolding call_on passable_on
passed-through-c held block l = by (feeder_of held) refl
  where
    by : (o : Option Feeder) → feeder_of held ≡ o → pass_on held (length block) ≡ feed_on held block
    by None e = rw e
    by (Some r) e = rw e (passed-is-fed r block (rw e at l))
