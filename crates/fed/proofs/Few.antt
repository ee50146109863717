-- How many turns a block takes: a turn that leaves bytes of the block has finished a piece or a body.
use Rattle.std.proofs.Common.{Option, Some, None}
use mathlib.Core.Path.{◌≡◌, refl, sym, ◌∙◌, ap}
use mathlib.Core.Bool.{not, true≢false}
use mathlib.Core.List.{List, [], ◌∷◌, foldl-append}
use Prim.Native.Nat.{ℕ, zero, suc, ◌+◌, ◌-◌, ◌*◌, ◌<◌, ◌≤◌}
use native.Mathlib.Omega.{arith}
use lib.ListN.{length, take, drop, take-append-drop, length-drop}
use lib.Seq.{length-take-le}
use lib.Dec.{leb, eqb}
use borrow.Author.Tests.{eq-eqb}
use Rattle.answers.specs.Numbers.{file_max}
use Rattle.byte_order.specs.Splice.{splice}
use Rattle.format.specs.declared.AudioFormat.{AudioFormat}
use Rattle.reading.specs.Types.{'caff', 'desc', 'data', version, edit_size, negative}
use Rattle.reading.specs.Step.{stands_at, size_at, bad_rate_at}
use Rattle.reading.specs.Rules.{is_open_size}
use Rattle.reading.proofs.Choice.{either}
use Rattle.feeder.specs.Record.{piece_size}
use Rattle.feeder.specs.declared.Phase.{Phase}
use Rattle.feeder.specs.declared.Phase.TheVariants.{FileHeader, FirstHeader, Desc, Header, Skipping, Edit, OpenData, ClosedData, Refused}
use Rattle.feeder.specs.declared.DataChunk.{DataChunk}
use Rattle.feeder.specs.declared.Feeder.{Feeder}
use Rattle.feeder.proofs.Facts.{Sound, sound-facts}
use Rattle.judging.specs.Judge.{judged_data, judged_header, begun_data, judged}
use Rattle.feeding.specs.Feed.{counted, collected, fills, took, is_refused, step1, feed_bytes}
use Rattle.feeding.specs.Turns.{wanted, takes, turn}
use Rattle.feeding.proofs.Soundness.{step-sound, bytes-sound}
use Rattle.feeding.proofs.Turns.{from, Collects, turn_is, turn-takes, bytes-steady}
use Rattle.fed.specs.ByTurns.{turns}
use Rattle.fed.specs.Claims.{FewTurns}

-- where a phase stands between two headers, and how far a record has come. The data chunk has a piece more than others, its edit count
abbrev begun : Option DataChunk → ℕ
begun None = 0
begun (Some chunk) = 1

abbrev late : Phase → ℕ
late FileHeader = 0
late FirstHeader = 1
late Desc = 0
late (Header f d) = 1 + begun d
late (Skipping f d left) = begun d
late (Edit f size) = 0
late (OpenData f start) = 1
late (ClosedData f chunk left) = 1
late (Refused number) = 2

abbrev rank : Feeder → ℕ
rank r = 2 * r.chunks + late r.phase

-- a whole piece brings a record on
file-late : (h : List ℕ) (t : ℕ) → 1 ≤ late (judged h t FileHeader)
unfolding judged
file-late h t =
    let P : Phase → Type 0 = λ x. 1 ≤ late x in
    either P (not (stands_at h 0 'caff')) (λ _. omega arith) (λ _. either P (not (stands_at h 4 version)) (λ _. omega arith) (λ _. omega arith))

desc-late : (h : List ℕ) (t : ℕ) → 1 ≤ late (judged h t Desc)
unfolding judged
desc-late h t = either (λ (x : Phase). 1 ≤ late x) (bad_rate_at h 0) (λ _. omega arith) (λ _. omega arith)

begun-small : (d : Option DataChunk) → begun d ≤ 1
begun-small None = omega arith
begun-small (Some chunk) = omega arith

-- after a header the data chunk is as far as before it, at least
data-late : (f : AudioFormat) (d : Option DataChunk) (size : ℕ) → begun d ≤ late (judged_data f d size)
data-late f None size = omega arith
data-late f (Some chunk) size = omega arith

header-late : (h : List ℕ) (f : AudioFormat) (d : Option DataChunk) → begun d ≤ late (judged_header h f d)
unfolding judged_header
header-late h f d =
    let P : Phase → Type 0 = λ x. begun d ≤ late x in
    let b = begun-small d in
    either P (stands_at h 0 'desc') (λ _. omega arith)
    (λ _. either P (stands_at h 0 'data') (λ _. data-late f d (size_at h 0))
    (λ _. either P (leb negative (size_at h 0)) (λ _. omega arith)
    (λ _. either P (eqb (size_at h 0) 0) (λ _. omega arith) (λ _. omega arith))))

edit-late : (f : AudioFormat) (size start : ℕ) → 1 ≤ late (begun_data f size start)
edit-late f size start =
    let P : Phase → Type 0 = λ x. 1 ≤ late x in
    either P (is_open_size size) (λ _. omega arith) (λ _. either P (eqb (size - edit_size) 0) (λ _. omega arith) (λ _. omega arith))

-- the rank after n bytes of a piece, whole or not
module _ (h h' : List ℕ) (n n' t t' k : ℕ) where
  on : (phase : Phase) → Collects phase → rank (from phase h n t k) + 1 ≤ rank (from (judged h' t' phase) h' 0 t' (counted k phase))
  unfolding judged
  on FileHeader c = let e = file-late h' t' in omega arith
  on FirstHeader c = omega arith
  on Desc c = let e = desc-late h' t' in omega arith
  on (Header f d) c = let e = header-late h' f d in omega arith
  on (Skipping f d m) c = absurd (let z : ⊥ = omega arith in z)
  on (Edit f size) c = let e = edit-late f size t' in omega arith
  on (OpenData f start) c = absurd (let z : ⊥ = omega arith in z)
  on (ClosedData f chunk m) c = absurd (let z : ⊥ = omega arith in z)
  on (Refused number) c = absurd (let z : ⊥ = omega arith in z)

-- no bytes take a record back, and those that a phase wanted bring it on
fills-rank : (phase : Phase) (h : List ℕ) (n t k : ℕ) (cs : List ℕ) → Collects phase
    → (rank (from phase h n t k) ≤ rank (fills (from phase h n t k) cs))
    × (n + length cs ≡ piece_size phase → rank (from phase h n t k) + 1 ≤ rank (fills (from phase h n t k) cs))
unfolding collected
fills-rank phase h n t k cs c =
    let r = from phase h n t k in
    let P : Feeder → Type 0 = λ x. (rank (from phase h n t k) ≤ rank x) × (n + length cs ≡ piece_size phase → rank (from phase h n t k) + 1 ≤ rank x) in
    either P (eqb (n + length cs) (piece_size phase))
    (λ _. let w = on h (splice h n cs) n 0 t (t + length cs) k phase c in (omega arith, λ _. w))
    (λ x. (omega arith, λ e. absurd (true≢false (sym (eq-eqb (n + length cs) (piece_size phase) e) ∙ x))))

abbrev Grows : Feeder → List ℕ → ℕ → Feeder → Type 0
Grows r cs want x = (rank r ≤ rank x) × (length cs ≡ want → rank r + 1 ≤ rank x)

took-rank : (phase : Phase) (h : List ℕ) (n t k : ℕ) (cs : List ℕ) (have : ℕ) → length cs < have → n ≤ piece_size phase - 1 → length cs ≤ wanted n have phase
    → Grows (from phase h n t k) cs (wanted n have phase) (took (from phase h n t k) cs)
unfolding took
took-rank FileHeader h n t k cs have g l w = let (a, b) = fills-rank FileHeader h n t k cs (omega arith) in (a, λ e. b (omega arith))
took-rank FirstHeader h n t k cs have g l w = let (a, b) = fills-rank FirstHeader h n t k cs (omega arith) in (a, λ e. b (omega arith))
took-rank Desc h n t k cs have g l w = let (a, b) = fills-rank Desc h n t k cs (omega arith) in (a, λ e. b (omega arith))
took-rank (Header f d) h n t k cs have g l w = let (a, b) = fills-rank (Header f d) h n t k cs (omega arith) in (a, λ e. b (omega arith))
took-rank (Skipping f d m) h n t k cs have g l w =
    either (λ (x : Phase). (2 * k + begun d ≤ 2 * k + late x) × (length cs ≡ m → 2 * k + begun d + 1 ≤ 2 * k + late x)) (eqb (m - length cs) 0)
    (λ _. (omega arith, λ _. omega arith))
    (λ x. (omega arith, λ e. absurd (true≢false (sym (eq-eqb (m - length cs) 0 (omega arith)) ∙ x))))
took-rank (Edit f size) h n t k cs have g l w = let (a, b) = fills-rank (Edit f size) h n t k cs (omega arith) in (a, λ e. b (omega arith))
took-rank (OpenData f start) h n t k cs have g l w = (omega arith, λ e. absurd (let z : ⊥ = omega arith in z))
took-rank (ClosedData f chunk m) h n t k cs have g l w =
    either (λ (x : Phase). (2 * k + 1 ≤ 2 * k + late x) × (length cs ≡ m → 2 * k + 1 + 1 ≤ 2 * k + late x)) (eqb (m - length cs) 0)
    (λ _. (omega arith, λ _. omega arith))
    (λ x. (omega arith, λ e. absurd (true≢false (sym (eq-eqb (m - length cs) 0 (omega arith)) ∙ x))))
took-rank (Refused number) h n t k cs have g l w = (omega arith, λ e. absurd (let z : ⊥ = omega arith in z))

late-small : (phase : Phase) → late phase ≤ 2
late-small FileHeader = omega arith
late-small FirstHeader = omega arith
late-small Desc = omega arith
late-small (Header f d) = let b = begun-small d in omega arith
late-small (Skipping f d m) = let b = begun-small d in omega arith
late-small (Edit f size) = omega arith
late-small (OpenData f start) = omega arith
late-small (ClosedData f chunk m) = omega arith
late-small (Refused number) = omega arith

step-rank : (r : Feeder) (b : ℕ) → Sound r → rank r ≤ rank (step1 r b)
unfolding step1
step-rank r b a =
    let P : Feeder → Type 0 = λ x. rank r ≤ rank x in
    let l = late-small r.phase in
    let w = (turn-takes r 2 a (omega arith)).0 in
    either P (is_refused r.phase) (λ _. omega arith)
    (λ _. either P (leb file_max r.total) (λ _. omega arith)
    (λ _. (took-rank r.phase r.held r.count r.total r.chunks (b ∷ []) 2 (omega arith) a.few (omega arith)).0))

bytes-rank : (bs : List ℕ) (r : Feeder) → Sound r → rank r ≤ rank (feed_bytes r bs)
bytes-rank [] r a = omega arith
bytes-rank (b ∷ bs) r a = let x = step-rank r b a in let y = bytes-rank bs (step1 r b) (step-sound r b a) in omega arith

-- a turn that leaves bytes brings the record on
turn-rank : (r : Feeder) (bs : List ℕ) → Sound r → takes r (length bs) < length bs → rank r + 1 ≤ rank (turn r bs)
turn-rank r bs a l =
    let z = length-take-le (takes r (length bs)) bs (omega arith) in
    (took-rank r.phase r.held r.count r.total r.chunks (take (takes r (length bs)) bs) (length bs) (omega arith) a.few (omega arith)).1 (omega arith)

-- as many turns as these are enough
abbrev Enough : ℕ → Type 0
Enough m =
    (r : Feeder) (bs : List ℕ) → Sound r → length r.held ≡ 32 → r.total + length bs ≤ file_max → rank (feed_bytes r bs) < m + rank r
    → turns m r bs ≡ feed_bytes r bs

no_more : (n : ℕ) (r : Feeder) → turns n r [] ≡ r
unfolding turns
no_more zero r = refl
no_more (suc n) r = refl

module _ (m : ℕ) (enough : Enough m) (r : Feeder) (b : ℕ) (bs : List ℕ) (a : Sound r) (e : length r.held ≡ 32) (g : r.total + suc (length bs) ≤ file_max)
    (l : rank (feed_bytes r (b ∷ bs)) < suc m + rank r) where
  abbrev first : List ℕ
  first = take (takes r (suc (length bs))) (b ∷ bs)

  abbrev rest : List ℕ
  rest = drop (takes r (suc (length bs))) (b ∷ bs)

  abbrev one : Feeder
  one = feed_bytes r first

  is-turn : one ≡ turn r (b ∷ bs)
  is-turn = turn_is r (b ∷ bs) a e (omega arith) g

  both : feed_bytes r (b ∷ bs) ≡ feed_bytes one rest
  both = ap (λ (x : List ℕ). feed_bytes r x) (sym (take-append-drop (takes r (suc (length bs))) (b ∷ bs))) ∙ foldl-append step1 r first rest

  then : (more : List ℕ) → more ≡ rest → turns m one more ≡ feed_bytes one more
  then [] x = no_more m one
  then (c ∷ cs) x =
      let t = turn-takes r (suc (length bs)) a (omega arith) in
      let p = length-take-le (takes r (suc (length bs))) (b ∷ bs) t.1 in
      let d = ap length x ∙ length-drop (takes r (suc (length bs))) (b ∷ bs) in
      let y = bytes-steady first r a e in
      let u : rank r + 1 ≤ rank one = rw is-turn (turn-rank r (b ∷ bs) a (omega arith)) in
      let v : rank (feed_bytes one (c ∷ cs)) ≡ rank (feed_bytes r (b ∷ bs)) = ap (λ (z : List ℕ). rank (feed_bytes one z)) x ∙ ap rank (sym both) in
      enough one (c ∷ cs) (bytes-sound first r a) (y.room ∙ e) (omega (arith, y.counts)) (omega arith)

  one_on : turns (suc m) r (b ∷ bs) ≡ feed_bytes r (b ∷ bs)
  unfolding turns
  one_on = ap (λ (x : Feeder). turns m x rest) (sym is-turn) ∙ then rest refl ∙ sym both

few : (m : ℕ) → Enough m
few zero r bs a e g l = absurd (let x = bytes-rank bs r a in let z : ⊥ = omega arith in z)
few (suc m) r [] a e g l = no_more (suc m) r
few (suc m) r (b ∷ bs) a e g l = one_on m (few m) r b bs a e g l

pub few-turns : FewTurns
few-turns r bs e g l =
    let a = sound-facts r e in
    let t = a.total in
    let x = bytes-rank bs r a in
    let y = late-small (feed_bytes r bs).phase in
    let z = late-small r.phase in
    few (2 * ((feed_bytes r bs).chunks - r.chunks) + 3) r bs a g (omega arith) (omega arith)
