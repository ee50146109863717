-- All bytes of a file, one after the other, and the end: the strict reading.
use Rattle.std.proofs.Common.{Option, Some, None}
use mathlib.Core.Path.{◌≡◌, refl, sym, ◌∙◌, ap}
use mathlib.Core.Bool.{true, false, true≢false}
use mathlib.Core.List.{List, [], ◌∷◌, ◌++◌, append-nil}
use Prim.Native.Nat.{ℕ, suc, ◌+◌, ◌-◌, ◌<◌, ◌≤◌}
use native.Mathlib.Nat.{add-zero, zero-add}
use native.Mathlib.Numerals.{add-one}
use native.Mathlib.Omega.{arith}
use lib.ListN.{length, drop, replicate, length-drop}
use lib.Seq.{drop-drop}
use lib.Dec.{ltb, leb, eqb}
use borrow.Author.Tests.{lt-ltb, lt-leb}
use Rattle.answers.specs.Numbers.{cut_short, no_data, file_max}
use Rattle.format.specs.declared.AudioFormat.{AudioFormat}
use Rattle.reading.specs.Types.{edit_size, size_to_data}
use Rattle.reading.specs.Step.{left, body_at}
use Rattle.reading.specs.Rules.{Strict, Tail, is_open_size, step_by}
use Rattle.reading.specs.Strict.{strict_info, first_chunk, strict}
use Rattle.reading.specs.declared.StrictInfo.{StrictInfo}
use Rattle.reading.specs.Shapes.{End, Refused as Refuse}
use Rattle.reading.specs.Shapes.{StrictAnswer, Accepted, Rejected}
use Rattle.reading.proofs.Choice.{either}
use Rattle.feeder.specs.Record.{held_room, fresh}
use Rattle.feeder.specs.End.{header_end, chunk_end, end_as, end_of}
use Rattle.feeder.specs.declared.Phase.{Phase}
use Rattle.feeder.specs.declared.Phase.TheVariants.{FileHeader, FirstHeader, Desc, Header, Skipping, Edit, OpenData, ClosedData, Refused}
use Rattle.feeder.specs.declared.DataChunk.{DataChunk}
use Rattle.feeder.specs.declared.Feeder.{Feeder}
use Rattle.feeding.specs.Feed.{is_refused, step1, feed_bytes}
use Rattle.feeding.proofs.Piece.{holds-none}
use Rattle.fed.proofs.At.{At, Follows, Known, rules_for, walked}
use Rattle.fed.proofs.Follow.{walks, byte-on}

-- a refusal stays as more bytes come
stays : (s : List ℕ) (i j : ℕ) (h : List ℕ) (n k : ℕ) (phase : Phase) → is_refused phase ≡ true → At s i h n k phase → At s j h n k phase
stays s i j h n k FileHeader x a = absurd (true≢false (sym x))
stays s i j h n k FirstHeader x a = absurd (true≢false (sym x))
stays s i j h n k Desc x a = absurd (true≢false (sym x))
stays s i j h n k (Header f d) x a = absurd (true≢false (sym x))
stays s i j h n k (Skipping f d m) x a = absurd (true≢false (sym x))
stays s i j h n k (Edit f size) x a = absurd (true≢false (sym x))
stays s i j h n k (OpenData f start) x a = absurd (true≢false (sym x))
stays s i j h n k (ClosedData f chunk m) x a = absurd (true≢false (sym x))
stays s i j h n k (Refused number) x a = a

module _ (s : List ℕ) where
  step-on : (i b : ℕ) (rest : List ℕ) (r : Feeder) → drop i s ≡ b ∷ rest → i < file_max → Follows s i r → Follows s (suc i) (step1 r b)
  unfolding step1
  step-on i b rest r e l a =
      let z = ap length e in
      let y = length-drop i s in
      let P : Feeder → Type 0 = λ x. Follows s (suc i) x in
      either P (is_refused r.phase)
      (λ x. record {
        room = a.room;
        total = λ w. absurd (true≢false (sym x ∙ w));
        within = omega arith;
        at = stays s i (suc i) r.held r.count r.chunks r.phase x a.at;
      })
      (λ x. let t = a.total x in
      let w : leb file_max r.total ≡ false = lt-leb file_max r.total (omega arith) in
      rw w (byte-on s i b rest e r x a))

  next_place : (i b : ℕ) (rest : List ℕ) → drop i s ≡ b ∷ rest → drop (suc i) s ≡ rest
  next_place i b rest e = ap (λ (j : ℕ). drop j s) (sym (add-one i)) ∙ sym (drop-drop 1 i s) ∙ ap (λ (x : List ℕ). drop 1 x) e

  bytes_on : (bs more : List ℕ) (i : ℕ) (r : Feeder) → drop i s ≡ bs ++ more → i + length bs ≤ file_max → Follows s i r → Follows s (i + length bs) (feed_bytes r bs)
  bytes_on [] more i r e l a = rw add-zero a
  bytes_on (b ∷ bs) more i r e l a =
      let w : suc i + length bs ≡ i + suc (length bs) = omega arith in
      rw w at (bytes_on bs more (suc i) (step1 r b) (next_place i b (bs ++ more) e) (omega arith) (step-on i b (bs ++ more) r e (omega arith) a))

  fresh-follows : Follows s 0 fresh
  fresh-follows =
      record {
        room = refl;
        total = λ _. refl;
        within = omega arith;
        at = record { holds = holds-none (replicate held_room 0) s 0 (omega arith); place = refl; few = omega arith; count = refl };
      }

  -- the first part of the file was fed
  pub part-follows : (bs more : List ℕ) → s ≡ bs ++ more → length bs ≤ file_max → Follows s (length bs) (feed_bytes fresh bs)
  part-follows bs more e l = rw zero-add at (bytes_on bs more 0 fresh e (omega arith) fresh-follows)

  -- the end
  cut-header : (n p k : ℕ) (f : AudioFormat) → strict s ≡ walked s f Strict p k → left s p ≡ n → n < 12 → header_end n k ≡ strict s
  unfolding step_by
  cut-header n p k f g e l =
      let w : ltb n 12 ≡ true = lt-ltb n 12 l in
      either (λ (x : StrictAnswer). x ≡ strict s) (ltb n 4)
      (λ x. sym (walks s f Strict p k (Refuse no_data 0) g (rw (e, w, x)) ∙ ap (λ (j : ℕ). Rejected no_data j) (add-zero k)))
      (λ x. sym (walks s f Strict p k (Refuse cut_short 0) g (rw (e, w, x)) ∙ ap (λ (j : ℕ). Rejected cut_short j) (add-zero k)))

  -- closed data have the payload that their size tells, however much follows
  closed-info : (f : AudioFormat) (size position start after : ℕ) → is_open_size size ≡ false → strict_info f size position start (size - edit_size) ≡ strict_info f size position start after
  closed-info f size position start after e = rw e

  cut-tail : (n p k : ℕ) (f : AudioFormat) (c : DataChunk) → strict s ≡ walked s f (rules_for (Some c)) p k → left s p ≡ n → n < 12 → Known s (Some c)
      → chunk_end n k f (Some c) ≡ strict s
  unfolding step_by
  cut-tail n p k f c g e l known =
      let record { size = size; start = start } = c in
      let w : ltb n 12 ≡ true = lt-ltb n 12 l in
      let by = Tail (start - size_to_data) start in
      either (λ (x : StrictAnswer). x ≡ strict s) (eqb n 0)
      (λ x. ap (λ (v : StrictInfo). Accepted v k) (closed-info f size (start - size_to_data) start (left s start) known.1)
      ∙ ap (λ (z : ℕ). Accepted (strict_info f z (start - size_to_data) start (left s start)) k) known.0
      ∙ sym (walks s f by p k (End (start - size_to_data) start) g (rw (e, w, x))))
      (λ x. sym (walks s f by p k (Refuse cut_short 0) g (rw (e, w, x)) ∙ ap (λ (j : ℕ). Rejected cut_short j) (add-zero k)))

  cut-chunk : (n p k : ℕ) (f : AudioFormat) (d : Option DataChunk) → strict s ≡ walked s f (rules_for d) p k → left s p ≡ n → n < 12 → Known s d → chunk_end n k f d ≡ strict s
  cut-chunk n p k f None g e l known = cut-header n p k f g e l
  cut-chunk n p k f (Some chunk) g e l known = cut-tail n p k f chunk g e l known

  cut-first : (n : ℕ) → strict s ≡ first_chunk s → left s 8 ≡ n → n < 12 → header_end n 0 ≡ strict s
  cut-first n g e l =
      let w : ltb n 12 ≡ true = lt-ltb n 12 l in
      either (λ (x : StrictAnswer). x ≡ strict s) (ltb n 4) (λ x. sym (g ∙ rw (e, x))) (λ x. sym (g ∙ rw (e, x, w)))

  module _ (h : List ℕ) (n k : ℕ) where
    end-as : (t : ℕ) (phase : Phase) → (is_refused phase ≡ false → t ≡ length s) → At s (length s) h n k phase → end_as n t k phase ≡ strict s
    unfolding strict
    end-as t FileHeader e a = let w : ltb (length s) 8 ≡ true = lt-ltb (length s) 8 (omega (arith, a.few, a.place)) in rw (w, a.count)
    end-as t FirstHeader e a = rw a.count (cut-first n a.rest (omega (arith, a.place)) a.few)
    end-as t Desc e a =
        let w : ltb (left s 20) 32 ≡ true = lt-ltb (left s 20) 32 (omega (arith, a.few, a.place)) in
        rw a.count (sym (a.rest ∙ rw w))
    end-as t (Header f d) e a = cut-chunk n a.p k f d a.rest (omega (arith, a.place)) a.few a.known
    end-as t (Skipping f d m) e a = sym (a.cut (omega (arith, a.some)))
    end-as t (Edit f size) e a =
        let w : ltb (left s (body_at a.p)) edit_size ≡ true = lt-ltb (left s (body_at a.p)) edit_size (omega (arith, a.place, a.few)) in
        rw a.count (sym (a.rest ∙ rw w))
    end-as t (OpenData f start) e a = rw (e refl) (sym a.rest)
    end-as t (ClosedData f chunk m) e a = sym (a.cut (omega (arith, a.some)))
    end-as t (Refused number) e a = sym a.0

  pub end_is : (r : Feeder) → Follows s (length s) r → end_of r ≡ strict s
  end_is r a = end-as r.held r.count r.chunks r.total r.phase a.total a.at

  -- the whole file, byte after byte
  pub bytes-strict : length s ≤ file_max → end_of (feed_bytes fresh s) ≡ strict s
  bytes-strict l = end_is (feed_bytes fresh s) (part-follows s [] (sym (append-nil s)) l)
