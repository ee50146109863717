-- Whole chunks at the start of a block: feeding them moves the record on by their bytes and their count, and leaves the last header held.
use Rattle.std.proofs.Common.{Option}
use mathlib.Core.Path.{◌≡◌, refl, sym, ◌∙◌, ap}
use mathlib.Core.Bool.{Bool, true, false, true≢false}
use mathlib.Core.List.{List, [], ◌∷◌, ◌++◌, foldl-append}
use Prim.Native.Nat.{ℕ, zero, suc, ◌+◌, ◌-◌, ◌*◌, ◌<◌, ◌≤◌}
use native.Mathlib.Nat.{add-zero}
use native.Mathlib.Omega.{arith}
use lib.ListN.{length, take, drop, length-drop, take-append-drop}
use lib.Seq.{take-add, drop_at, length-take-le}
use lib.Dec.{ltb, leb, eqb}
use borrow.Author.Tests.{ltb-false, ne_eqb, eqb-true, eqb-false}
use Rattle.answers.specs.Numbers.{file_max}
use Rattle.byte_order.specs.Splice.{splice}
use Rattle.byte_order.proofs.Laws.{length-splice}
use Rattle.format.specs.declared.AudioFormat.{AudioFormat}
use Rattle.reading.specs.Types.{'desc', 'data', negative}
use Rattle.reading.specs.Step.{left, stands_at, size_at}
use Rattle.reading.proofs.Choice.{either}
use Rattle.feeder.specs.declared.Phase.{Phase}
use Rattle.feeder.specs.declared.Phase.TheVariants.{FileHeader, FirstHeader, Desc, Header, Skipping, Edit, OpenData, ClosedData, Refused}
use Rattle.feeder.specs.declared.DataChunk.{DataChunk}
use Rattle.feeder.specs.declared.Feeder.{Feeder}
use Rattle.judging.specs.Judge.{skipping, judged_header, judged}
use Rattle.feeding.specs.Feed.{collected, fills, took, step1, feed_bytes}
use Rattle.feeding.specs.Chunks.{whole_at, chunk_at, Walked, is_header, Past}
use Rattle.feeding.specs.declared.Walk.{Walk}
use Rattle.feeding.proofs.Turns.{from, many-piece, many-skip}
use Rattle.feeding.proofs.Piece.{Holds, holds-none, holds_as, holds_more, stands-front, size_same}

-- what is known of a chunk of n bytes that is whole
pub record Fits (s : List ℕ) (p n : ℕ) : Type 0 where
  pub no-desc : stands_at s p 'desc' ≡ false
  pub no-data : stands_at s p 'data' ≡ false
  pub few : leb negative (size_at s p) ≡ false
  pub is : n ≡ 12 + size_at s p
  pub room : p + n + 12 ≤ length s

pub fits : (s : List ℕ) (p : ℕ) → 0 < whole_at s p → Fits s p (whole_at s p)
unfolding whole_at
fits s p =
    let P : ℕ → Type 0 = λ n. 0 < n → Fits s p n in
    let no : P 0 = λ l. absurd (let z : ⊥ = omega arith in z) in
    either P (ltb (left s p) 24) (λ _. no)
    (λ a. either P (stands_at s p 'desc') (λ _. no)
    (λ b. either P (stands_at s p 'data') (λ _. no)
    (λ c. either P (leb negative (size_at s p)) (λ _. no)
    (λ e. either P (ltb (left s p - 24) (size_at s p)) (λ _. no)
    (λ g _. let x = ltb-false (left s p) 24 a in let y = ltb-false (left s p - 24) (size_at s p) g in record { no-desc = b; no-data = c; few = e; is = refl; room = omega arith })))))

module _ (f : AudioFormat) (d : Option DataChunk) where
  skip-some : (m : ℕ) → 0 < m → skipping f d m ≡ Skipping f d m
  skip-some m l = let w : eqb m 0 ≡ false = ne_eqb m 0 (λ e. let z : ⊥ = omega arith in z) in rw w

  took-skipped : (m : ℕ) (h : List ℕ) (n t k : ℕ) (bs : List ℕ) → took (from (Skipping f d m) h n t k) bs ≡ from (skipping f d (m - length bs)) h n (t + length bs) k
  unfolding took
  took-skipped m h n t k bs = refl

  -- a whole body
  body-fed : (bs h : List ℕ) (n t k : ℕ) → t + length bs ≤ file_max → feed_bytes (from (skipping f d (length bs)) h n t k) bs ≡ from (Header f d) h n (t + length bs) k
  body-fed [] h n t k g = let q : t ≡ t + 0 = omega arith in λ j. from (Header f d) h n (q j) k
  body-fed (b ∷ bs) h n t k g =
      let z : suc (length bs) - suc (length bs) ≡ 0 = omega arith in
      ap (λ (x : Phase). feed_bytes (from x h n t k) (b ∷ bs)) (skip-some (suc (length bs)) (omega arith))
      ∙ many-skip f d bs (suc (length bs)) h n t k b (omega arith) g
      ∙ took-skipped (suc (length bs)) h n t k (b ∷ bs)
      ∙ (λ j. from (skipping f d (z j)) h n (t + suc (length bs)) k)

  judged-other : (piece : List ℕ) (t m : ℕ) → stands_at piece 0 'desc' ≡ false → stands_at piece 0 'data' ≡ false → leb negative (size_at piece 0) ≡ false → size_at piece 0 ≡ m
      → judged piece t (Header f d) ≡ skipping f d m
  unfolding judged judged_header
  judged-other piece t m a b c e = rw (a, b, c) (ap (skipping f d) e)

  -- a whole header
  fills-whole : (bs h : List ℕ) (t k : ℕ) → length bs ≡ 12 → fills (from (Header f d) h 0 t k) bs ≡ from (judged (splice h 0 bs) (t + 12) (Header f d)) (splice h 0 bs) 0 (t + 12) (k + 1)
  unfolding collected
  fills-whole bs h t k e = let z : 0 + length bs ≡ 12 = omega arith in λ j. collected (splice h 0 bs) (z j) (from (Header f d) h 0 t k) (t + e j)

  header-fed : (bs h : List ℕ) (t k : ℕ) → length bs ≡ 12 → length h ≡ 32 → t + 12 ≤ file_max
      → feed_bytes (from (Header f d) h 0 t k) bs ≡ from (judged (splice h 0 bs) (t + 12) (Header f d)) (splice h 0 bs) 0 (t + 12) (k + 1)
  header-fed [] h t k e room g = absurd (let z : ⊥ = omega arith in z)
  header-fed (b ∷ bs) h t k e room g = many-piece (Header f d) (omega arith) bs h 0 t k b room (omega arith) (omega arith) ∙ fills-whole (b ∷ bs) h t k e

  -- a whole chunk
  module _ (s : List ℕ) (p n : ℕ) (a : Fits s p n) (h : List ℕ) (t k : ℕ) (room : length h ≡ 32) (limit : t + n ≤ file_max) where
    abbrev head : List ℕ
    head = take 12 (drop p s)

    abbrev body : List ℕ
    body = take (size_at s p) (drop 12 (drop p s))

    head-long : length head ≡ 12
    head-long = length-take-le 12 (drop p s) (rw length-drop (omega (arith, a.room, a.is)))

    body-long : size_at s p ≡ length body
    body-long = sym (length-take-le (size_at s p) (drop 12 (drop p s)) (rw (length-drop, length-drop) (omega (arith, a.room, a.is))))

    holds : Holds (splice h 0 head) 12 s p
    holds =
        holds_as
        (holds_more h 0 s p head (drop 12 (drop p s)) (holds-none h s p (omega (arith, a.room))) (omega (arith, head-long)) (ap (λ (q : ℕ). drop q s) (add-zero p) ∙ sym (take-append-drop 12 (drop p s))))
        (let z : 0 + length head ≡ 12 = omega (arith, head-long) in z)

    judged-is : judged (splice h 0 head) (t + 12) (Header f d) ≡ skipping f d (length body)
    judged-is =
        let o = holds in
        let z : size_at (splice h 0 head) 0 ≡ size_at s p = size_same (splice h 0 head) 12 s p o (omega arith) in
        judged-other (splice h 0 head) (t + 12) (length body)
        (stands-front (splice h 0 head) 12 s p o 'desc' (omega arith) ∙ a.no-desc)
        (stands-front (splice h 0 head) 12 s p o 'data' (omega arith) ∙ a.no-data)
        (ap (leb negative) z ∙ a.few)
        (z ∙ body-long)

    pub chunk-fed : feed_bytes (from (Header f d) h 0 t k) (take n (drop p s)) ≡ from (Header f d) (splice h 0 head) 0 (t + n) (k + 1)
    chunk-fed =
        let q : t + 12 + length body ≡ t + n = omega (arith, a.is, body-long) in
        ap (λ (x : ℕ). feed_bytes (from (Header f d) h 0 t k) (take x (drop p s))) a.is
        ∙ ap (feed_bytes (from (Header f d) h 0 t k)) (take-add 12 (size_at s p) (drop p s))
        ∙ foldl-append step1 (from (Header f d) h 0 t k) head body
        ∙ ap (λ (x : Feeder). feed_bytes x body) (header-fed head h t k head-long room (omega (arith, a.is)) ∙ (λ j. from (judged-is j) (splice h 0 head) 0 (t + 12) (k + 1)))
        ∙ body-fed body (splice h 0 head) 0 (t + 12) (k + 1) (omega (arith, q, limit))
        ∙ (λ j. from (Header f d) (splice h 0 head) 0 (q j) (k + 1))

-- the header of the last of n chunks is held
abbrev pub held_after : List ℕ → List ℕ → ℕ → List ℕ
held_after s h zero = h
held_after s h (suc n) = splice h 0 (take 12 (drop (chunk_at s n) s))

-- they are all whole
abbrev pub Whole : List ℕ → ℕ → Type 0
Whole s n = (m : ℕ) → m < n → 0 < whole_at s (chunk_at s m)

module _ (s : List ℕ) where
  -- they lie in the block, with a header after them, and each has a header
  pub record Lies (n : ℕ) : Type 0 where
    pub within : chunk_at s n ≤ length s
    pub apart : 12 * n ≤ chunk_at s n

  whole-one : (n : ℕ) → Whole s (suc n) → Fits s (chunk_at s n) (whole_at s (chunk_at s n))
  whole-one n w = fits s (chunk_at s n) (w n (omega arith))

  pub whole-fewer : (n : ℕ) → Whole s (suc n) → Whole s n
  whole-fewer n w m l = w m (omega arith)

  pub lies : (n : ℕ) → Whole s n → Lies n
  lies zero w = record { within = omega arith; apart = omega arith }
  lies (suc n) w =
      let a = whole-one n w in
      let i = lies n (whole-fewer n w) in
      record { within = omega (arith, a.room); apart = omega (arith, a.is, i.apart) }

  -- where the last of them stands
  pub last_within : (n : ℕ) → Whole s (suc n) → chunk_at s n + 12 ≤ length s
  last_within n w = let a = whole-one n w in omega (arith, a.room)

  held-long : (h : List ℕ) (n : ℕ) → length h ≡ 32 → Whole s n → length (held_after s h n) ≡ 32
  held-long h zero room w = room
  held-long h (suc n) room w =
      let l = length-take-le 12 (drop (chunk_at s n) s) (rw length-drop (omega (arith, last_within n w))) in
      length-splice h 0 (take 12 (drop (chunk_at s n) s)) (omega (arith, l)) ∙ room

  -- one header over another
  over : (h bs cs : List ℕ) → length bs ≡ 12 → length cs ≡ 12 → splice (splice h 0 bs) 0 cs ≡ splice h 0 cs
  over h bs cs l m =
      let e : length bs ≡ length cs = l ∙ sym m in
      let z : drop (0 + length cs) (splice h 0 bs) ≡ drop (0 + length bs) h = ap (λ (n : ℕ). drop n (splice h 0 bs)) (let y : 0 + length cs ≡ length bs = omega arith in y) ∙ drop_at bs (drop (0 + length bs) h) (length bs) refl in
      ap (λ (x : List ℕ). cs ++ x) (z ∙ ap (λ (n : ℕ). drop (0 + n) h) e)

  held-over : (h : List ℕ) (n : ℕ) → length h ≡ 32 → Whole s (suc n) → splice (held_after s h n) 0 (take 12 (drop (chunk_at s n) s)) ≡ held_after s h (suc n)
  held-over h zero room w = refl
  held-over h (suc n) room w =
      over h (take 12 (drop (chunk_at s n) s)) (take 12 (drop (chunk_at s (suc n)) s))
      (length-take-le 12 (drop (chunk_at s n) s) (rw length-drop (omega (arith, last_within n (whole-fewer (suc n) w)))))
      (length-take-le 12 (drop (chunk_at s (suc n)) s) (rw length-drop (omega (arith, last_within (suc n) w))))

  chunks-fed : (f : AudioFormat) (d : Option DataChunk) (h : List ℕ) (t k n : ℕ) → length h ≡ 32 → t + length s ≤ file_max → Whole s n
      → feed_bytes (from (Header f d) h 0 t k) (take (chunk_at s n) s) ≡ from (Header f d) (held_after s h n) 0 (t + chunk_at s n) (k + n)
  chunks-fed f d h t k zero room g w = let p : t ≡ t + 0 = omega arith in let q : k ≡ k + 0 = omega arith in λ j. from (Header f d) h 0 (p j) (q j)
  chunks-fed f d h t k (suc n) room g w =
      let a = whole-one n w in
      let v = whole-fewer n w in
      let p : t + chunk_at s n + whole_at s (chunk_at s n) ≡ t + (chunk_at s n + whole_at s (chunk_at s n)) = omega arith in
      let q : k + n + 1 ≡ k + suc n = omega arith in
      ap (feed_bytes (from (Header f d) h 0 t k)) (take-add (chunk_at s n) (whole_at s (chunk_at s n)) s)
      ∙ foldl-append step1 (from (Header f d) h 0 t k) (take (chunk_at s n) s) (take (whole_at s (chunk_at s n)) (drop (chunk_at s n) s))
      ∙ ap (λ (x : Feeder). feed_bytes x (take (whole_at s (chunk_at s n)) (drop (chunk_at s n) s))) (chunks-fed f d h t k n room g v)
      ∙ chunk-fed f d s (chunk_at s n) (whole_at s (chunk_at s n)) a (held_after s h n) (t + chunk_at s n) (k + n) (held-long h n room v) (omega (arith, a.room, g))
      ∙ (λ j. from (Header f d) (held-over h n room w j) 0 (p j) (q j))

  -- at a phase where a header is due
  pub phase-fed : (phase : Phase) → is_header phase ≡ true → (h : List ℕ) (t k n : ℕ) → length h ≡ 32 → t + length s ≤ file_max → Whole s n
      → feed_bytes (from phase h 0 t k) (take (chunk_at s n) s) ≡ from phase (held_after s h n) 0 (t + chunk_at s n) (k + n)
  phase-fed FileHeader e = absurd (true≢false (sym e))
  phase-fed FirstHeader e = absurd (true≢false (sym e))
  phase-fed Desc e = absurd (true≢false (sym e))
  phase-fed (Header f d) e = chunks-fed f d
  phase-fed (Skipping f d m) e = absurd (true≢false (sym e))
  phase-fed (Edit f size) e = absurd (true≢false (sym e))
  phase-fed (OpenData f start) e = absurd (true≢false (sym e))
  phase-fed (ClosedData f chunk m) e = absurd (true≢false (sym e))
  phase-fed (Refused number) e = absurd (true≢false (sym e))

  -- some of them, one after the other
  pub record Walking (w : Walk) : Type 0 where
    pub to : w.to ≡ chunk_at s w.chunks
    pub last : w.last ≡ chunk_at s (w.chunks - 1)
    pub whole : Whole s w.chunks

  pub walking-none : Walking (record { to = 0; last = 0; chunks = 0 })
  walking-none = record { to = refl; last = refl; whole = λ m l. absurd (let z : ⊥ = omega arith in z) }

  pub walking-within : (w : Walk) → Walking w → w.to ≤ length s
  walking-within w a = let l = lies w.chunks a.whole in omega (arith, a.to, l.within)

  -- one more
  pub record Next (w : Walk) (n : ℕ) : Type 0 where
    pub on : Walking (record { to = w.to + n; last = w.to; chunks = w.chunks + 1 })
    pub within : w.to + n ≤ length s
    pub apart : 12 * (w.chunks + 1) ≤ w.to + n

  whole-more : (k : ℕ) → Whole s k → 0 < whole_at s (chunk_at s k) → Whole s (k + 1)
  whole-more k w z m l = by (eqb m k) refl
    where
      by : (x : Bool) → eqb m k ≡ x → 0 < whole_at s (chunk_at s m)
      by true x = let e : m ≡ k = eqb-true m k x in rw e z
      by false x = let e = eqb-false m k x in w m (omega arith)

  pub next : (w : Walk) (n : ℕ) → Walking w → (n ≡ whole_at s w.to) × (0 < n) → Next w n
  next w n a i =
      let k = w.chunks in
      let g : n ≡ whole_at s (chunk_at s k) = i.0 ∙ ap (whole_at s) a.to in
      let q : suc k ≡ k + 1 = omega arith in
      let at : w.to + n ≡ chunk_at s (k + 1) = (λ j. a.to j + g j) ∙ ap (chunk_at s) q in
      let v = whole-more k a.whole (omega (arith, g, i.1)) in
      let l = lies (k + 1) v in
      record {
        on = record { to = at; last = a.to ∙ ap (chunk_at s) (let x : k ≡ k + 1 - 1 = omega arith in x); whole = v };
        within = omega (arith, at, l.within);
        apart = omega (arith, at, l.apart);
      }

  -- where some are whole, the last stands in the block, and another header comes after them
  last-lies : (k : ℕ) → (k ≡ 0 → ⊥) → Whole s k → chunk_at s (k - 1) + 12 ≤ length s
  last-lies zero z w = absurd (z refl)
  last-lies (suc n) z w = let e : suc n - 1 ≡ n = omega arith in rw e (last_within n w)

  ends-before : (k : ℕ) → (k ≡ 0 → ⊥) → Whole s k → chunk_at s k + 12 ≤ length s
  ends-before zero z w = absurd (z refl)
  ends-before (suc n) z w = let a = whole-one n w in omega (arith, a.room)

  held-last : (h : List ℕ) (k : ℕ) → (k ≡ 0 → ⊥) → held_after s h k ≡ splice h 0 (take 12 (drop (chunk_at s (k - 1)) s))
  held-last h zero z = absurd (z refl)
  held-last h (suc n) z = let e : n ≡ suc n - 1 = omega arith in ap (λ (m : ℕ). splice h 0 (take 12 (drop (chunk_at s m) s))) e

  pub walked-lies : (w : Walk) → Walked s w → (w.chunks ≡ 0 → ⊥) → (w.last + 12 ≤ length s) × (w.to ≤ length s) × (12 * w.chunks ≤ w.to)
  walked-lies w a z =
      let l = lies w.chunks a.whole in
      let m = last-lies w.chunks z a.whole in
      (omega (arith, m, a.last), omega (arith, l.within, a.to), omega (arith, l.apart, a.to))

  pub past-some : (r : Feeder) (w : Walk) (hs : List ℕ) → Walked s w → is_header r.phase ≡ true → r.count ≡ 0 → (w.chunks ≡ 0 → ⊥) → length r.held ≡ 32
      → r.total + length s ≤ file_max → hs ≡ take (w.last + 12 - w.last) (drop w.last s)
      → Past r s (from r.phase (hs ++ drop 12 r.held) r.count (r.total + w.to) (r.chunks + w.chunks))
  past-some r w hs a e c z room g i =
      let l = ends-before w.chunks z a.whole in
      let y : r.total + w.to - r.total ≡ chunk_at s w.chunks = omega (arith, a.to) in
      let n : w.last + 12 - w.last ≡ 12 = omega arith in
      let h : take 12 (drop (chunk_at s (w.chunks - 1)) s) ≡ hs = sym (i ∙ rw (n, a.last)) in
      let m = last-lies w.chunks z a.whole in
      let k : length hs ≡ 12 = ap length (sym h) ∙ length-take-le 12 (drop (chunk_at s (w.chunks - 1)) s) (rw length-drop (omega (arith, m))) in
      let long : 0 + length hs ≡ 12 = omega (arith, k) in
      let x : held_after s r.held w.chunks ≡ hs ++ drop 12 r.held =
      held-last r.held w.chunks z ∙ ap (λ (m : List ℕ). splice r.held 0 m) h ∙ (λ j. hs ++ drop (long j) r.held) in
      record {
        ahead = omega arith;
        within = omega (arith, l, y);
        same =
            ap (λ (n : ℕ). feed_bytes r (take n s)) y
            ∙ (λ j. feed_bytes (from r.phase r.held (c j) r.total r.chunks) (take (chunk_at s w.chunks) s))
            ∙ phase-fed r.phase e r.held r.total r.chunks w.chunks room g a.whole
            ∙ (λ j. from r.phase (x j) (sym c j) (r.total + sym a.to j) (r.chunks + w.chunks));
      }
