-- The pairs of a group, put by its first block and widened by every later one: those of all blocks so far.
use mathlib.Core.Path.{◌≡◌, refl, sym, ap, ◌∙◌}
use mathlib.Core.Bool.{Bool, true, false}
use mathlib.Core.List.{List, [], ◌++◌, append-nil}
use Prim.Native.Nat.{ℕ, zero, suc, ◌+◌, ◌*◌, ◌<◌, ◌≤◌, min, max}
use native.Mathlib.Nat.{add-zero, add-suc, add-mul, mul-le-mul_right}
use native.Mathlib.Omega.{arith}
use lib.Dec.{ltb}
use lib.ListN.{length, get_or, length-append}
use borrow.Author.Tests.{ltb-true, ltb-false}
use Rattle.byte_order.specs.Big.{big_at, big_bytes}
use Rattle.byte_order.specs.Splice.{splice}
use Rattle.byte_order.proofs.Laws.{more, big-past, big-within, kept}
use Rattle.byte_order.proofs.Places.{front_kept, rest-kept, after_kept, value_there}
use Rattle.overview.specs.Groups.{chosen, pair_of, channel_pairs}
use Rattle.overview.specs.Height.{turned, height_at, lowest, highest, set_pair, block_pair, block_pairs}
use Rattle.overview.specs.Put.{end_of}
use Rattle.overview.specs.declared.Track.{Track}
use Rattle.overview.proofs.Heights.{pair_is, span_small}
use Rattle.overview.proofs.Lengths.{length-channels}
use Rattle.overview.proofs.ReadLaws.{two_bytes}
use Rattle.overview.proofs.SameSamples.{chosen-same}
use Rattle.overview.proofs.Stored.{channels-stay, span-stays}

length-block : (first : Bool) (t : Track) (s : List ℕ) (at from n k : ℕ) → length (block_pairs first t s at from n k) ≡ 4 * k
length-block first t s at from n zero = refl
length-block first t s at from n (suc k) = let l = length-block first t s at from n k in simp length-append (omega arith)

-- two bytes after those that were stored are as they were, and two among them are those that were stored
number-after : (s vs : List ℕ) (at q : ℕ) → at + length vs ≤ length s → at + length vs ≤ q → big_at 2 (splice s at vs) q ≡ big_at 2 s q
number-after s vs at q room h =
    sym (two_bytes (splice s at vs) q) ∙ rw (after_kept s at vs room q 0 h, after_kept s at vs room (q + 1) 0 (omega arith)) (two_bytes s q)

number-there : (s vs : List ℕ) (at i : ℕ) → at + length vs ≤ length s → i + 2 ≤ length vs → big_at 2 (splice s at vs) (at + i) ≡ big_at 2 vs i
number-there s vs at i room h =
    let e : at + i + 1 ≡ at + (i + 1) = omega arith in
    sym (two_bytes (splice s at vs) (at + i)) ∙ rw (e, value_there s at vs room i 0 (omega arith), value_there s at vs room (i + 1) 0 (omega arith)) (two_bytes vs i)

-- one channel more
module _ (first : Bool) (t : Track) (start buf last : List ℕ) (from n at k low high : ℕ) where
  pub channel-put : k < t.channels → end_of t (from + n + 1) ≤ at → at + 4 * t.channels ≤ length start
      → buf ≡ splice start at (block_pairs first t start at from n k)
      → low ≡ lowest t.order buf (t.at + from * (3 * t.channels) + 3 * k) (3 * t.channels) n
      → high ≡ highest t.order buf (t.at + from * (3 * t.channels) + 3 * k) (3 * t.channels) n
      → last ≡ splice buf (at + 4 * k) (set_pair first buf (at + 4 * k) low high)
      → last ≡ splice start at (block_pairs first t start at from n (suc k))
  channel-put h ends room stands lo hi put =
      let vs = block_pairs first t start at from n k in
      let l = length-block first t start at from n k in
      let r : at + length vs ≤ length start = omega arith in
      let same = span-stays t start buf at (from + n + 1) ends vs r stands k from n h (omega arith) in
      let one : big_at 2 buf (at + 4 * k) ≡ big_at 2 start (at + 4 * k) = ap (λ (b : List ℕ). big_at 2 b (at + 4 * k)) stands ∙ number-after start vs at (at + 4 * k) r (omega arith) in
      let two : big_at 2 buf (at + 4 * k + 2) ≡ big_at 2 start (at + 4 * k + 2) = ap (λ (b : List ℕ). big_at 2 b (at + 4 * k + 2)) stands ∙ number-after start vs at (at + 4 * k + 2) r (omega arith) in
      let pair : set_pair first buf (at + 4 * k) low high ≡ block_pair first t start (at + 4 * k) k from n = rw (one, two, lo ∙ same.0, hi ∙ same.1) in
      more start at (4 * k) vs (block_pair first t start (at + 4 * k) k from n) stands (put ∙ ap (splice buf (at + 4 * k)) pair) l (omega arith)

-- the first block of a group has the pairs of its frames
pub first_block : (t : Track) (s : List ℕ) (bytes : (i : ℕ) → get_or s i 0 < 256) (at from n k : ℕ) → block_pairs true t s at from n k ≡ channel_pairs t s from n k
first_block t s bytes at from n zero = refl
first_block t s bytes at from n (suc k) = rw (first_block t s bytes at from n k, pair_is t s bytes k from n)

-- what is chosen of a block and of all before it
module _ (pick : ℕ → ℕ → ℕ) (on : (a b c : ℕ) → pick a (pick b c) ≡ pick (pick a b) c) (f : ℕ → ℕ) where
  chosen_on : (m n : ℕ) → pick (chosen pick f m) (chosen pick (λ i. f (suc m + i)) n) ≡ chosen pick f (suc m + n)
  chosen_on m zero = rw (add-zero (suc m))
  chosen_on m (suc n) = rw (add-suc (suc m) n) (on (chosen pick f m) (chosen pick (λ i. f (suc m + i)) n) (f (suc (suc m + n))) ∙ ap (λ (x : ℕ). pick x (f (suc (suc m + n)))) (chosen_on m n))

-- a pair among those of all channels
pair-at : (t : Track) (s : List ℕ) (from n k c i : ℕ) → k < c → i ≤ 2 → big_at 2 (channel_pairs t s from n c) (4 * k + i) ≡ big_at 2 (pair_of t s k from n) i
pair-at t s from n k zero i h j = absurd (let no : ⊥ = omega arith in no)
pair-at t s from n k (suc c) i h j = go (ltb k c) refl (λ less. pair-at t s from n k c i less j)
  where
    go : (b : Bool) → ltb k c ≡ b → (k < c → big_at 2 (channel_pairs t s from n c) (4 * k + i) ≡ big_at 2 (pair_of t s k from n) i)
        → big_at 2 (channel_pairs t s from n c ++ pair_of t s c from n) (4 * k + i) ≡ big_at 2 (pair_of t s k from n) i
    go true e earlier =
        let less = ltb-true k c e in
        let l = length-channels t s from n c in
        big-within 2 (channel_pairs t s from n c) (pair_of t s c from n) (4 * k + i) (omega arith) ∙ earlier less
    go false e earlier =
        let z : k ≡ c = omega (arith, ltb-false k c e) in
        let l : 4 * k + i ≡ length (channel_pairs t s from n c) + i = omega (arith, length-channels t s from n c) in
        rw (l, big-past 2 (channel_pairs t s from n c) (pair_of t s c from n) i, z)

-- fewer frames end earlier
pub ends-before : (t : Track) (a b : ℕ) → a ≤ b → end_of t a ≤ end_of t b
ends-before t a b h = let m = mul-le-mul_right t.channels h in omega arith

-- the same place stored over by as many bytes
over : (s xs ys : List ℕ) (at : ℕ) → at + length xs ≤ length s → length ys ≡ length xs → splice (splice s at xs) at ys ≡ splice s at ys
over s xs ys at room l = rw (front_kept s at xs room, l, rest-kept s at xs room)

-- pairs put over those that stand there are put into the buffer as it was before those
pub put-over : (t : Track) (start buf : List ℕ) (from m n at : ℕ) → end_of t (from + n + 1) ≤ at → at + 4 * t.channels ≤ length start
    → buf ≡ splice start at (channel_pairs t start from m t.channels)
    → splice buf at (channel_pairs t buf from n t.channels) ≡ splice start at (channel_pairs t start from n t.channels)
put-over t start buf from m n at ends room stands =
    let vs = channel_pairs t start from m t.channels in
    let xs = channel_pairs t start from n t.channels in
    let l = length-channels t start from m t.channels in
    let r : at + length vs ≤ length start = omega arith in
    ap (splice buf at) (channels-stay t start buf at (from + n + 1) ends vs r stands from n t.channels (omega arith) (omega arith))
    ∙ ap (λ (b : List ℕ). splice b at xs) stands ∙ over start vs xs at r (length-channels t start from n t.channels ∙ sym l)

module _ (t : Track) (start buf : List ℕ) (bytes : (i : ℕ) → get_or start i 0 < 256) (from m n at : ℕ) (ends : end_of t (from + (suc m + n) + 1) ≤ at)
    (room : at + 4 * t.channels ≤ length start) (stands : buf ≡ splice start at (channel_pairs t start from m t.channels)) where
  abbrev pairs : List ℕ
  pairs = channel_pairs t start from m t.channels

  fits : at + length pairs ≤ length start
  fits = let l = length-channels t start from m t.channels in omega arith

  -- the two heights that stand there for a channel
  module _ (k : ℕ) (h : k < t.channels) where
    abbrev p : ℕ
    p = t.at + from * (3 * t.channels) + 3 * k

    abbrev step : ℕ
    step = 3 * t.channels

    stood : (i : ℕ) → i ≤ 2 → big_at 2 buf (at + 4 * k + i) ≡ big_at 2 (pair_of t start k from m) i
    stood i j =
        let e : at + 4 * k + i ≡ at + (4 * k + i) = omega arith in
        let l = length-channels t start from m t.channels in
        ap (λ (b : List ℕ). big_at 2 b (at + 4 * k + i)) stands ∙ rw e (number-there start pairs at (4 * k + i) fits (omega arith)) ∙ pair-at t start from m k t.channels i h j

    low-stood : turned (big_at 2 buf (at + 4 * k)) ≡ lowest t.order start p step m
    low-stood =
        let x = lowest t.order start p step m in
        let small = (span_small t start k from m).0 in
        let e : at + 4 * k ≡ at + 4 * k + 0 = omega arith in
        let b : big_at 2 (pair_of t start k from m) 0 ≡ turned x = ap (λ (l : List ℕ). big_at 2 l 0) (sym (pair_is t start bytes k from m)) ∙ kept 2 (turned x) (big_bytes 2 (turned (highest t.order start p step m))) (omega arith) in
        let back : turned (turned x) ≡ x = omega arith in
        ap turned (ap (big_at 2 buf) e ∙ stood 0 (omega arith) ∙ b) ∙ back

    high-stood : turned (big_at 2 buf (at + 4 * k + 2)) ≡ highest t.order start p step m
    high-stood =
        let x = highest t.order start p step m in
        let y = lowest t.order start p step m in
        let small = (span_small t start k from m).1 in
        let b : big_at 2 (pair_of t start k from m) 2 ≡ turned x =
        ap (λ (l : List ℕ). big_at 2 l 2) (sym (pair_is t start bytes k from m)) ∙ big-past 2 (big_bytes 2 (turned y)) (big_bytes 2 (turned x)) 0
        ∙ ap (λ (l : List ℕ). big_at 2 l 0) (sym (append-nil (big_bytes 2 (turned x)))) ∙ kept 2 (turned x) [] (omega arith) in
        let back : turned (turned x) ≡ x = omega arith in
        ap turned (stood 2 (omega arith) ∙ b) ∙ back

    -- the block's samples stand a block further on
    further : (i : ℕ) → t.at + (from + suc m) * step + 3 * k + i * step ≡ p + (suc m + i) * step
    further i = omega (arith, add-mul from (suc m) step, add-mul (suc m) i step)

    widened_is : block_pair false t buf (at + 4 * k) k (from + suc m) n ≡ pair_of t start k from (suc m + n)
    widened_is =
        let q = t.at + (from + suc m) * step + 3 * k in
        let f : ℕ → ℕ = λ i. height_at t.order start (p + i * step) in
        let each : (i : ℕ) → i ≤ n → height_at t.order start (q + i * step) ≡ f (suc m + i) = λ i j. ap (height_at t.order start) (further i) in
        let same = span-stays t start buf at (from + (suc m + n) + 1) ends pairs fits stands k (from + suc m) n h (omega arith) in
        let low : min (turned (big_at 2 buf (at + 4 * k))) (lowest t.order buf q step n) ≡ lowest t.order start p step (suc m + n) =
        rw (low-stood, same.0, chosen-same min (λ i. height_at t.order start (q + i * step)) (λ i. f (suc m + i)) n each) (chosen_on min (λ a b c. omega arith) f m n) in
        let high : max (turned (big_at 2 buf (at + 4 * k + 2))) (highest t.order buf q step n) ≡ highest t.order start p step (suc m + n) =
        rw (high-stood, same.1, chosen-same max (λ i. height_at t.order start (q + i * step)) (λ i. f (suc m + i)) n each) (chosen_on max (λ a b c. omega arith) f m n) in
        rw (low, high) (pair_is t start bytes k from (suc m + n))

  all-widened : (k : ℕ) → k ≤ t.channels → block_pairs false t buf at (from + suc m) n k ≡ channel_pairs t start from (suc m + n) k
  all-widened zero h = refl
  all-widened (suc k) h = rw (all-widened k (omega arith), widened_is k (omega arith))

  pub block-put : {last : List ℕ} → last ≡ splice buf at (block_pairs false t buf at (from + suc m) n t.channels) → last ≡ splice start at (channel_pairs t start from (suc m + n) t.channels)
  block-put put =
      let xs = channel_pairs t start from (suc m + n) t.channels in
      put ∙ ap (splice buf at) (all-widened t.channels (omega arith)) ∙ ap (λ (b : List ℕ). splice b at xs) stands
      ∙ over start pairs xs at fits (length-channels t start from (suc m + n) t.channels ∙ sym (length-channels t start from m t.channels))
