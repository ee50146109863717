-- One byte more keeps what the record knows of the file, and so do as many as its phase wants.
use Rattle.std.proofs.Common.{Option, None, Some}
use mathlib.Core.Path.{◌≡◌, refl, sym, ◌∙◌, ap}
use mathlib.Core.Bool.{true, false, cond, not, ◌&&◌, true≢false}
use mathlib.Core.List.{List, [], ◌∷◌, ◌++◌}
use Prim.Native.Nat.{ℕ, suc, ◌+◌, ◌-◌, ◌<◌, ◌≤◌}
use native.Mathlib.Numerals.{add-one}
use native.Mathlib.Omega.{arith}
use lib.ListN.{length, drop, length-append, length-drop}
use lib.Dec.{ltb, leb, eqb}
use borrow.Author.Tests.{eqb-true, eqb-false, le-ltb, lt-ltb}
use Rattle.answers.specs.Numbers.{cut_short, bad_size, bad_desc, data_past_end, second_data}
use Rattle.byte_order.specs.Big.{big_at}
use Rattle.byte_order.specs.Splice.{splice}
use Rattle.byte_order.proofs.Laws.{length-splice}
use Rattle.format.specs.Desc.{format_at, desc_size}
use Rattle.format.specs.declared.AudioFormat.{AudioFormat}
use Rattle.reading.specs.Types.{'caff', 'desc', 'data', version, type_size, edit_size, open_size, negative, size_to_data}
use Rattle.reading.specs.Step.{left, stands_at, size_at, body_at, bad_rate_at, skip_at}
use Rattle.reading.specs.Rules.{Rules, Strict, Tail, is_open_size, is_bad_data_size, strict_data, step_by}
use Rattle.reading.specs.Table.{Possible}
use Rattle.reading.specs.Strict.{is_first_desc, strict_info, strict_answer, first_body, first_chunk, strict}
use Rattle.reading.specs.Shapes.{Step}
use Rattle.reading.specs.Shapes.{Data, Refused as Refuse}
use Rattle.reading.specs.Shapes.{Accepted, Rejected}
use Rattle.reading.proofs.Choice.{either}
use Rattle.reading.proofs.Place.{possible}
use Rattle.reading.proofs.Walk.{walk-on}
use Rattle.feeder.specs.Record.{piece_size}
use Rattle.feeder.specs.declared.Phase.{Phase}
use Rattle.feeder.specs.declared.Phase.TheVariants.{FileHeader, FirstHeader, Desc, Header, Skipping, Edit, OpenData, ClosedData, Refused}
use Rattle.feeder.specs.declared.DataChunk.{DataChunk}
use Rattle.feeder.specs.declared.Feeder.{Feeder}
use Rattle.judging.specs.Judge.{skipping, judged_data, judged_header, begun_data, judged}
use Rattle.feeding.specs.Feed.{counted, collected, fills, took, is_refused}
use Rattle.feeding.specs.Turns.{wanted}
use Rattle.feeding.proofs.Piece.{Holds, holds-none, holds_as, holds_more, stands_same, stands-front, size_same, rate-same, format-same}
use Rattle.fed.proofs.At.{At, AtBody, AtDesc, AtEdit, AtFile, AtFirst, AtHeader, AtOpen, Follows, Known, closing, from_edit, over_body, rules_for, stepped, walked}

-- a possible size has room for the edit count
least-of : (z : ℕ) → Possible z → 4 ≤ z
least-of z (Possible.minus_one e) = omega arith
least-of z (Possible.counted h g) = h

module _ (s : List ℕ) where
  -- the strict walk takes the step that stands at its place
  pub walks : (f : AudioFormat) (rules : Rules) (p k : ℕ) (st : Step) → strict s ≡ walked s f rules p k → step_by rules s p ≡ st → strict s ≡ stepped s f rules k st
  walks f rules p k st e g = e ∙ ap (λ (a : _). strict_answer s f a) (walk-on s rules p (Some f) k) ∙ ap (λ (x : Step). stepped s f rules k x) g

  -- whole pieces, where the reading stands at `to`
  module _ (to : ℕ) (on : to ≤ length s) where
    -- a whole file header
    file-whole : (h : List ℕ) (t : ℕ) → Holds h 8 s 0 → to ≡ 8 → At s (to) h 0 0 (judged h t FileHeader)
    unfolding judged strict
    file-whole h t o l =
        let P : Phase → Type 0 = λ x. At s (to) h 0 0 x in
        let q : ltb (length s) 8 ≡ false = le-ltb (length s) 8 (omega (arith, o.within)) in
        let c : stands_at h 0 'caff' ≡ stands_at s 0 'caff' = stands_same h 8 s 0 o 0 'caff' (omega arith) in
        let v : stands_at h 4 version ≡ stands_at s 4 version = stands_same h 8 s 0 o 4 version (omega arith) in
        either P (not (stands_at h 0 'caff')) (λ x. (rw (q, ← c, x), refl))
        (λ x. either P (not (stands_at h 4 version)) (λ y. (rw (q, ← c, x, ← v, y), refl))
        (λ y. record { holds = holds-none h s 8 (omega arith); place = l; few = omega arith; count = refl; rest = rw (q, ← c, x, ← v, y) }))

    -- a whole first chunk header
    first-whole : (h : List ℕ) (t : ℕ) → Holds h 12 s 8 → to ≡ 20 → strict s ≡ first_chunk s → At s (to) h 0 1 (judged h t FirstHeader)
    unfolding judged
    first-whole h t o l g =
        let P : Phase → Type 0 = λ x. At s (to) h 0 1 x in
        let q : ltb (left s 8) 4 ≡ false = le-ltb (left s 8) 4 (omega (arith, o.within)) in
        let w : ltb (left s 8) 12 ≡ false = le-ltb (left s 8) 12 (omega (arith, o.within)) in
        let c : stands_at h 0 'desc' ≡ stands_at s 8 'desc' = stands_same h 12 s 8 o 0 'desc' (omega arith) in
        let v : size_at h 0 ≡ size_at s 8 = size_same h 12 s 8 o (omega arith) in
        let d : (stands_at h 0 'desc' && eqb (size_at h 0) desc_size) ≡ is_first_desc s = λ j. c j && eqb (v j) desc_size in
        either P (not (stands_at h 0 'desc' && eqb (size_at h 0) desc_size)) (λ x. (g ∙ rw (q, w, ← d, x), refl))
        (λ x. record { holds = holds-none h s 20 (omega arith); place = l; few = omega arith; count = refl; rest = g ∙ rw (q, w, ← d, x) })

    -- a whole body of the first chunk
    desc-whole : (h : List ℕ) (t : ℕ) → Holds h 32 s 20 → to ≡ 52 → strict s ≡ first_body s → At s (to) h 0 1 (judged h t Desc)
    unfolding judged
    desc-whole h t o l g =
        let P : Phase → Type 0 = λ x. At s (to) h 0 1 x in
        let q : ltb (left s 20) 32 ≡ false = le-ltb (left s 20) 32 (omega (arith, o.within)) in
        let c : bad_rate_at h 0 ≡ bad_rate_at s 20 = rate-same h 32 s 20 o (omega arith) in
        let v : format_at h 0 ≡ format_at s 20 = format-same h 32 s 20 o (omega arith) in
        either P (bad_rate_at h 0) (λ x. (g ∙ rw (q, ← c, x), refl))
        (λ x. record { p = 52; holds = holds-none h s 52 (omega arith); place = l; few = omega arith; rest = g ∙ rw (q, ← c, x, v); known = tt })

    -- m bytes of a body are to come from here on
    body-begins : (h : List ℕ) (k number : ℕ) (f : AudioFormat) (d : Option DataChunk) (m : ℕ) (body : Phase) → (AtBody s to 0 k number f d m → At s to h 0 k body)
        → (length s < to + m → strict s ≡ Rejected number k) → (to + m ≤ length s → strict s ≡ walked s f (rules_for d) (to + m) k) → Known s d
        → At s to h 0 k (cond (eqb m 0) (Header f d) body)
    body-begins h k number f d m body at cut go known =
        let P : Phase → Type 0 = λ x. At s to h 0 k x in
        either P (eqb m 0)
        (λ x. let z = eqb-true m 0 x in
        record { p = to + m; holds = holds-none h s (to + m) (omega arith); place = omega arith; few = omega arith; rest = go (omega arith); known = known })
        (λ x. let z = eqb-false m 0 x in at (record { some = omega arith; none = refl; cut = cut; on = go; known = known }))

    -- a whole chunk header: of a chunk that is skipped, of the data
    skip-whole : (h : List ℕ) (p k : ℕ) (f : AudioFormat) (d : Option DataChunk) (m : ℕ) → m ≡ size_at s p → to ≡ p + 12 → Known s d
        → strict s ≡ stepped s f (rules_for d) k (over_body s p) → At s to h 0 (k + 1) (skipping f d m)
    skip-whole h p k f d m c l known g =
        let e : body_at p + size_at s p ≡ to + m = omega arith in
        body-begins h (k + 1) cut_short f d m (Skipping f d m) (λ a. a)
        (λ x. g ∙ (let w : ltb (left s (body_at p)) (size_at s p) ≡ true = lt-ltb (left s (body_at p)) (size_at s p) (omega arith) in rw w))
        (λ x. g ∙ (let w : ltb (left s (body_at p)) (size_at s p) ≡ false = le-ltb (left s (body_at p)) (size_at s p) (omega arith) in rw w) ∙ ap (λ (q : ℕ). walked s f (rules_for d) q (k + 1)) e)
        known

    -- its tests, by the rules that hold
    module _ (h : List ℕ) (p k : ℕ) (f : AudioFormat) (o : Holds h 12 s p) (l : to ≡ p + 12) where
      short : ltb (left s p) 12 ≡ false
      short = le-ltb (left s p) 12 (omega (arith, o.within))

      desc-is : stands_at h 0 'desc' ≡ stands_at s p 'desc'
      desc-is = stands-front h 12 s p o 'desc' (omega arith)

      data_is : stands_at h 0 'data' ≡ stands_at s p 'data'
      data_is = stands-front h 12 s p o 'data' (omega arith)

      size_is : size_at h 0 ≡ size_at s p
      size_is = size_same h 12 s p o (omega arith)

      desc-whole-again : (d : Option DataChunk) → strict s ≡ walked s f (rules_for d) p k → stands_at h 0 'desc' ≡ true → strict s ≡ Rejected bad_desc (k + 1)
      unfolding step_by
      desc-whole-again None g x = walks f Strict p k (Refuse bad_desc 1) g (rw (short, ← desc-is, x))
      desc-whole-again (Some chunk) g x = walks f (Tail (chunk.start - size_to_data) chunk.start) p k (Refuse bad_desc 1) g (rw (short, ← desc-is, x))

      data-whole : (d : Option DataChunk) → strict s ≡ walked s f (rules_for d) p k → stands_at h 0 'desc' ≡ false → stands_at h 0 'data' ≡ true
          → At s to h 0 (k + 1) (judged_data f d (size_at h 0))
      unfolding step_by strict_data
      data-whole None g x y =
          either (λ (x : Phase). At s to h 0 (k + 1) x) (is_bad_data_size (size_at h 0))
          (λ z. (walks f Strict p k (Refuse bad_size 1) g (rw (short, ← desc-is, x, ← data_is, y, ← size_is, z)), refl))
          (λ z. record {
            p = p;
            before = k;
            place = omega arith;
            room = omega arith;
            few = omega arith;
            count = refl;
            is = size_is;
            least = least-of (size_at h 0) (possible (size_at h 0) z);
            rest = walks f Strict p k (from_edit s p) g (rw (short, ← desc-is, x, ← data_is, y, ← size_is, z));
          })
      data-whole (Some chunk) g x y = (walks f (Tail (chunk.start - size_to_data) chunk.start) p k (Refuse second_data 1) g (rw (short, ← desc-is, x, ← data_is, y)), refl)

      negative-whole : (d : Option DataChunk) → strict s ≡ walked s f (rules_for d) p k → stands_at h 0 'desc' ≡ false → stands_at h 0 'data' ≡ false → leb negative (size_at h 0) ≡ true
          → strict s ≡ Rejected bad_size (k + 1)
      unfolding step_by skip_at
      negative-whole None g x y z = walks f Strict p k (Refuse bad_size 1) g (rw (short, ← desc-is, x, ← data_is, y, ← size_is, z))
      negative-whole (Some chunk) g x y z = walks f (Tail (chunk.start - size_to_data) chunk.start) p k (Refuse bad_size 1) g (rw (short, ← desc-is, x, ← data_is, y, ← size_is, z))

      over-whole : (d : Option DataChunk) → strict s ≡ walked s f (rules_for d) p k → stands_at h 0 'desc' ≡ false → stands_at h 0 'data' ≡ false → leb negative (size_at h 0) ≡ false
          → strict s ≡ stepped s f (rules_for d) k (over_body s p)
      unfolding step_by skip_at
      over-whole None g x y z = walks f Strict p k (over_body s p) g (rw (short, ← desc-is, x, ← data_is, y, ← size_is, z))
      over-whole (Some chunk) g x y z = walks f (Tail (chunk.start - size_to_data) chunk.start) p k (over_body s p) g (rw (short, ← desc-is, x, ← data_is, y, ← size_is, z))

      header-whole : (t : ℕ) (d : Option DataChunk) → strict s ≡ walked s f (rules_for d) p k → Known s d → At s to h 0 (k + 1) (judged h t (Header f d))
      unfolding judged judged_header
      header-whole t d g known =
          let P : Phase → Type 0 = λ x. At s to h 0 (k + 1) x in
          either P (stands_at h 0 'desc') (λ x. (desc-whole-again d g x, refl))
          (λ x. either P (stands_at h 0 'data') (λ y. data-whole d g x y)
          (λ y. either P (leb negative (size_at h 0)) (λ z. (negative-whole d g x y z, refl))
          (λ z. skip-whole h p k f d (size_at h 0) size_is l known (over-whole d g x y z))))

    closing-open : (p : ℕ) → is_open_size (size_at s p) ≡ true → closing s p ≡ Data (p + type_size) (body_at p + edit_size)
    closing-open p y = rw y

    -- a whole edit count: the data start here
    edit-whole : (h : List ℕ) (start p k : ℕ) (f : AudioFormat) (size : ℕ) → start ≡ p + 12 + 4 → to ≡ start → size ≡ size_at s p → 4 ≤ size
        → strict s ≡ stepped s f Strict k (closing s p) → At s to h 0 (k + 1) (begun_data f size start)
    edit-whole h start p k f size place l is least g =
        let P : Phase → Type 0 = λ x. At s to h 0 (k + 1) x in
        let q : p + type_size ≡ start - size_to_data = omega arith in
        let field : size_at s p ≡ big_at 8 s (start - size_to_data) = ap (big_at 8 s) q in
        either P (is_open_size size)
        (λ x. record {
          past = omega arith;
          rest = g
              ∙ ap (λ (st : Step). stepped s f Strict k st) (closing-open p (ap is_open_size (sym is) ∙ x))
              ∙ (λ j. Accepted (strict_info f ((sym is ∙ eqb-true size open_size x) j) (q j) (sym place j) (left s (sym place j))) (k + 1));
        })
        (λ x. let y : is_open_size (size_at s p) ≡ false = ap is_open_size (sym is) ∙ x in
        let e : body_at p + size_at s p ≡ to + (size - edit_size) = omega arith in
        body-begins h (k + 1) data_past_end f (Some (record { size = size; start = start })) (size - edit_size) (ClosedData f (record { size = size; start = start }) (size - edit_size)) (λ a. a)
        (λ z. g ∙ (let w : ltb (left s (body_at p)) (size_at s p) ≡ true = lt-ltb (left s (body_at p)) (size_at s p) (omega arith) in rw (y, w)))
        (λ z. g
        ∙ (let w : ltb (left s (body_at p)) (size_at s p) ≡ false = le-ltb (left s (body_at p)) (size_at s p) (omega arith) in rw (y, w))
        ∙ (λ j. walked s f (Tail (q j) (sym place j)) (e j) (k + 1)))
        (is ∙ field, x))

  -- bytes that one phase can take, in each phase
  module _ (i : ℕ) (cs rest : List ℕ) (from : i ≤ length s) (e : drop i s ≡ cs ++ rest) where
    on : i + length cs ≤ length s
    on = let z = ap length e ∙ length-append cs rest in let y = length-drop i s in omega arith

    module _ (h : List ℕ) (n t k : ℕ) (room : length h ≡ 32) (is : t ≡ i) where
      abbrev piece : List ℕ
      piece = splice h n cs

      piece-room : n + length cs ≤ 32 → length piece ≡ 32
      piece-room l = length-splice h n cs (omega arith) ∙ room

      piece-holds : (p : ℕ) → Holds h n s p → n + length cs ≤ 32 → i ≡ p + n → Holds piece (n + length cs) s p
      piece-holds p o l a = holds_more h n s p cs rest o (omega arith) (ap (λ (j : ℕ). drop j s) (sym a) ∙ e)

      abbrev Then : Phase → Type 0
      Then phase = Follows s (i + length cs) (took (record { phase = phase; held = h; count = n; total = t; chunks = k }) cs)

      -- bytes of a piece make it whole, or it goes on
      piece-on : (phase : Phase) → n + length cs ≤ piece_size phase → piece_size phase ≤ 32
          → (n + length cs ≡ piece_size phase → At s (i + length cs) piece 0 (counted k phase) (judged piece (t + length cs) phase))
          → (n + length cs < piece_size phase → At s (i + length cs) piece (n + length cs) k phase)
          → Follows s (i + length cs) (fills (record { phase = phase; held = h; count = n; total = t; chunks = k }) cs)
      unfolding collected
      piece-on phase fit small whole more =
          let l = piece-room (omega arith) in
          either (λ (x : Feeder). Follows s (i + length cs) x) (eqb (n + length cs) (piece_size phase))
          (λ x. record { room = l; total = λ _. omega arith; within = on; at = whole (eqb-true (n + length cs) (piece_size phase) x) })
          (λ x. let z = eqb-false (n + length cs) (piece_size phase) x in
          record { room = l; total = λ _. omega arith; within = on; at = more (omega arith) })

      file-on : n + length cs ≤ 8 → AtFile s i h n k → Then FileHeader
      unfolding took
      file-on fit a =
          let o = piece-holds 0 a.holds (omega arith) (omega (arith, a.place)) in
          piece-on FileHeader fit (omega arith)
          (λ z. rw a.count (file-whole (i + length cs) on piece (t + length cs) (holds_as o z) (omega (arith, a.place))))
          (λ z. record { holds = o; place = omega (arith, a.place); few = z; count = a.count })

      first_on : n + length cs ≤ 12 → AtFirst s i h n k → Then FirstHeader
      unfolding took
      first_on fit a =
          let o = piece-holds 8 a.holds (omega arith) a.place in
          piece-on FirstHeader fit (omega arith)
          (λ z. rw a.count (first-whole (i + length cs) on piece (t + length cs) (holds_as o z) (omega (arith, a.place)) a.rest))
          (λ z. record { holds = o; place = omega (arith, a.place); few = z; count = a.count; rest = a.rest })

      desc-on : n + length cs ≤ 32 → AtDesc s i h n k → Then Desc
      unfolding took
      desc-on fit a =
          let o = piece-holds 20 a.holds (omega arith) a.place in
          piece-on Desc fit (omega arith)
          (λ z. rw a.count (desc-whole (i + length cs) on piece (t + length cs) (holds_as o z) (omega (arith, a.place)) a.rest))
          (λ z. record { holds = o; place = omega (arith, a.place); few = z; count = a.count; rest = a.rest })

      header-on : (f : AudioFormat) (d : Option DataChunk) → n + length cs ≤ 12 → AtHeader s i h n k f d → Then (Header f d)
      unfolding took
      header-on f d fit a =
          let o = piece-holds a.p a.holds (omega arith) a.place in
          piece-on (Header f d) fit (omega arith)
          (λ z. header-whole (i + length cs) on piece a.p k f (holds_as o z) (omega (arith, a.place)) (t + length cs) d a.rest a.known)
          (λ z. record { p = a.p; holds = o; place = omega (arith, a.place); few = z; rest = a.rest; known = a.known })

      edit-on : (f : AudioFormat) (size : ℕ) → n + length cs ≤ 4 → AtEdit s i h n k f size → Then (Edit f size)
      unfolding took judged
      edit-on f size fit a =
          let l = piece-room (omega arith) in
          piece-on (Edit f size) fit (omega arith)
          (λ z. let w : ltb (left s (body_at a.p)) edit_size ≡ false = le-ltb (left s (body_at a.p)) edit_size (omega (arith, a.place, on)) in
          rw a.count (edit-whole (i + length cs) on piece (t + length cs) a.p a.before f size (omega (arith, a.place)) (omega arith) a.is a.least (a.rest ∙ rw w)))
          (λ z. record {
            p = a.p;
            before = a.before;
            place = omega (arith, a.place);
            room = omega arith;
            few = z;
            count = a.count;
            is = a.is;
            least = a.least;
            rest = a.rest;
          })

      -- more of a body
      body-on : (number : ℕ) (f : AudioFormat) (d : Option DataChunk) (m : ℕ) (body : Phase) → (AtBody s (i + length cs) 0 k number f d (m - length cs) → At s (i + length cs) h 0 k body)
          → length cs ≤ m → AtBody s i n k number f d m → At s (i + length cs) h n k (cond (eqb (m - length cs) 0) (Header f d) body)
      body-on number f d m body at fit a =
          let e : i + length cs + (m - length cs) ≡ i + m = omega arith in
          rw a.none (body-begins (i + length cs) on h k number f d (m - length cs) body at (λ x. a.cut (omega arith))
          (λ x. a.on (omega arith) ∙ ap (λ (q : ℕ). walked s f (rules_for d) q k) (sym e)) a.known)

      skip-on : (f : AudioFormat) (d : Option DataChunk) (m : ℕ) → length cs ≤ m → AtBody s i n k cut_short f d m → Then (Skipping f d m)
      unfolding took
      skip-on f d m fit a =
          record { room = room; total = λ _. omega arith; within = on; at = body-on cut_short f d m (Skipping f d (m - length cs)) (λ x. x) fit a }

      closed_on : (f : AudioFormat) (c : DataChunk) (m : ℕ) → length cs ≤ m → AtBody s i n k data_past_end f (Some c) m → Then (ClosedData f c m)
      unfolding took
      closed_on f c m fit a =
          record {
            room = room;
            total = λ _. omega arith;
            within = on;
            at = body-on data_past_end f (Some c) m (ClosedData f c (m - length cs)) (λ x. x) fit a;
          }

      open-on : (f : AudioFormat) (start : ℕ) → AtOpen s i k f start → Then (OpenData f start)
      unfolding took
      open-on f start a = record { room = room; total = λ _. omega arith; within = on; at = record { past = omega (arith, a.past); rest = a.rest } }

      phase-on : (have : ℕ) (phase : Phase) → is_refused phase ≡ false → 0 < length cs → length cs ≤ wanted n have phase → At s i h n k phase → Then phase
      phase-on have FileHeader x some l a = file-on (omega arith) a
      phase-on have FirstHeader x some l a = first_on (omega arith) a
      phase-on have Desc x some l a = desc-on (omega arith) a
      phase-on have (Header f d) x some l a = header-on f d (omega arith) a
      phase-on have (Skipping f d m) x some l a = skip-on f d m l a
      phase-on have (Edit f size) x some l a = edit-on f size (omega arith) a
      phase-on have (OpenData f start) x some l a = open-on f start a
      phase-on have (ClosedData f chunk m) x some l a = closed_on f chunk m l a
      phase-on have (Refused number) x some l a = absurd (true≢false x)

    -- some bytes, no more than are wanted
    pub bytes_on : (have : ℕ) (r : Feeder) → is_refused r.phase ≡ false → 0 < length cs → length cs ≤ wanted r.count have r.phase → Follows s i r
        → Follows s (i + length cs) (took r cs)
    bytes_on have r x some l a = phase-on r.held r.count r.total r.chunks a.room (a.total x) have r.phase x some l a.at

-- a phase wants a byte at least
at-wants : (s : List ℕ) (i : ℕ) (h : List ℕ) (n k : ℕ) (phase : Phase) → At s i h n k phase → 1 ≤ wanted n 1 phase
at-wants s i h n k FileHeader a = let l = a.few in omega arith
at-wants s i h n k FirstHeader a = let l = a.few in omega arith
at-wants s i h n k Desc a = let l = a.few in omega arith
at-wants s i h n k (Header f d) a = let l = a.few in omega arith
at-wants s i h n k (Skipping f d m) a = a.some
at-wants s i h n k (Edit f size) a = let l = a.few in omega arith
at-wants s i h n k (OpenData f start) a = omega arith
at-wants s i h n k (ClosedData f chunk m) a = a.some
at-wants s i h n k (Refused number) a = omega arith

pub byte-on : (s : List ℕ) (i b : ℕ) (rest : List ℕ) → drop i s ≡ b ∷ rest → (r : Feeder) → is_refused r.phase ≡ false → Follows s i r
    → Follows s (suc i) (took r (b ∷ []))
byte-on s i b rest e r x a =
    rw add-one at (bytes_on s i (b ∷ []) rest a.within e 1 r x (omega arith) (at-wants s i r.held r.count r.chunks r.phase a.at) a)
