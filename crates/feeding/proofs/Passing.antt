-- Bytes that may be passed over: feeding any so many counts them, and nothing else.
use Rattle.std.proofs.Common.{Option}
use mathlib.Core.Path.{◌≡◌, refl, sym, ◌∙◌, ap}
use mathlib.Core.Bool.{true, false}
use mathlib.Core.List.{List, [], ◌∷◌}
use Prim.Native.Nat.{ℕ, ◌+◌, ◌-◌, ◌≤◌, min}
use native.Mathlib.Omega.{arith}
use lib.ListN.{length, replicate, length-replicate}
use lib.Dec.{eqb}
use borrow.Author.Tests.{ne_eqb}
use Rattle.answers.specs.Numbers.{bad_writer, file_max}
use Rattle.format.specs.declared.AudioFormat.{AudioFormat}
use Rattle.feeder.specs.Record.{sound}
use Rattle.feeder.specs.declared.Phase.{Phase}
use Rattle.feeder.specs.declared.Phase.TheVariants.{FileHeader, FirstHeader, Desc, Header, Skipping, Edit, OpenData, ClosedData, Refused}
use Rattle.feeder.specs.declared.DataChunk.{DataChunk}
use Rattle.feeder.specs.declared.Feeder.{Feeder}
use Rattle.feeder.proofs.Facts.{Facts, Sound, sound-facts}
use Rattle.feeding.specs.Feed.{passed_as, took, number_at, feed_bytes}
use Rattle.feeding.specs.Turns.{wanted, room_for}
use Rattle.feeding.specs.Pass.{may_pass, passable, pass}
use Rattle.feeding.proofs.Call.{feed-is, feed-not, still-sound}
use Rattle.feeding.proofs.Turns.{from, many-skip, many-closed, many-open}

-- what may be passed over is wanted by the phase, and has room in a file
pub may-wanted : (n m room : ℕ) (phase : Phase) → m ≤ may_pass room phase → (m ≤ wanted n m phase) × (m ≤ room)
may-wanted n m room FileHeader l = (omega arith, omega arith)
may-wanted n m room FirstHeader l = (omega arith, omega arith)
may-wanted n m room Desc l = (omega arith, omega arith)
may-wanted n m room (Header f d) l = (omega arith, omega arith)
may-wanted n m room (Skipping f d left) l = (omega arith, omega arith)
may-wanted n m room (Edit f size) l = (omega arith, omega arith)
may-wanted n m room (OpenData f start) l = (omega arith, l)
may-wanted n m room (ClosedData f chunk left) l = (omega arith, omega arith)
may-wanted n m room (Refused number) l = (omega arith, omega arith)

-- no bytes
none : (r : Feeder) (bs : List ℕ) → length bs ≤ 0 → feed_bytes r bs ≡ r
none r [] l = refl
none r (b ∷ bs) l = absurd (let z : ⊥ = omega arith in z)

skip-passed : (f : AudioFormat) (d : Option DataChunk) (m : ℕ) (h : List ℕ) (n t k : ℕ) (bs : List ℕ) → 1 ≤ m → length bs ≤ m → t + length bs ≤ file_max
    → feed_bytes (from (Skipping f d m) h n t k) bs ≡ passed_as (Skipping f d m) (from (Skipping f d m) h n t k) (length bs)
unfolding took
skip-passed f d m h n t k [] s l g =
    let w : eqb (m - 0) 0 ≡ false = ne_eqb (m - 0) 0 (λ e. let z : ⊥ = omega arith in z) in
    let p : m ≡ m - 0 = omega arith in
    let q : t ≡ t + 0 = omega arith in
    rw w (λ j. from (Skipping f d (p j)) h n (q j) k)
skip-passed f d m h n t k (b ∷ bs) s l g = many-skip f d bs m h n t k b l g

closed-passed : (f : AudioFormat) (c : DataChunk) (m : ℕ) (h : List ℕ) (n t k : ℕ) (bs : List ℕ) → 1 ≤ m → length bs ≤ m → t + length bs ≤ file_max
    → feed_bytes (from (ClosedData f c m) h n t k) bs ≡ passed_as (ClosedData f c m) (from (ClosedData f c m) h n t k) (length bs)
unfolding took
closed-passed f c m h n t k [] s l g =
    let w : eqb (m - 0) 0 ≡ false = ne_eqb (m - 0) 0 (λ e. let z : ⊥ = omega arith in z) in
    let p : m ≡ m - 0 = omega arith in
    let q : t ≡ t + 0 = omega arith in
    rw w (λ j. from (ClosedData f c (p j)) h n (q j) k)
closed-passed f c m h n t k (b ∷ bs) s l g = many-closed f c bs m h n t k b l g

by-phase : (phase : Phase) (h : List ℕ) (n t k : ℕ) (bs : List ℕ) → Facts n t k phase → t ≤ file_max → length bs ≤ may_pass (file_max - t) phase
    → feed_bytes (from phase h n t k) bs ≡ passed_as phase (from phase h n t k) (length bs)
unfolding took
by-phase FileHeader h n t k bs a g l = none (from FileHeader h n t k) bs l
by-phase FirstHeader h n t k bs a g l = none (from FirstHeader h n t k) bs l
by-phase Desc h n t k bs a g l = none (from Desc h n t k) bs l
by-phase (Header f d) h n t k bs a g l = none (from (Header f d) h n t k) bs l
by-phase (Skipping f d m) h n t k bs a g l = skip-passed f d m h n t k bs a.some (omega arith) (omega arith)
by-phase (Edit f size) h n t k bs a g l = none (from (Edit f size) h n t k) bs l
by-phase (OpenData f start) h n t k bs a g l = many-open f start bs h n t k (omega arith)
by-phase (ClosedData f chunk m) h n t k bs a g l = closed-passed f chunk m h n t k bs a.some (omega arith) (omega arith)
by-phase (Refused number) h n t k bs a g l = none (from (Refused number) h n t k) bs l

pub bytes-passed : (r : Feeder) (bs : List ℕ) → Sound r → length bs ≤ may_pass (room_for r) r.phase → feed_bytes r bs ≡ passed_as r.phase r (length bs)
bytes-passed r bs a l = by-phase r.phase r.held r.count r.total r.chunks bs a.facts a.total l

-- the call of a sound record
abbrev pub passes : Feeder → ℕ → Feeder
passes r n = passed_as r.phase r (min n (may_pass (room_for r) r.phase))

abbrev zeros : ℕ → List ℕ
zeros n = replicate n 0

fed-as : (r : Feeder) (bs : List ℕ) (n : ℕ) → sound r ≡ true → length bs ≡ min n (may_pass (room_for r) r.phase) → feed_bytes r bs ≡ passes r n
fed-as r bs n e l = bytes-passed r bs (sound-facts r e) (omega arith) ∙ ap (passed_as r.phase r) l

pub passable-is : (r : Feeder) → sound r ≡ true → passable r ≡ may_pass (room_for r) r.phase
unfolding passable
passable-is r e = rw e

pub pass-is : (r : Feeder) (n : ℕ) → sound r ≡ true → pass r n ≡ record { number = number_at (passes r n).phase; feeder = passes r n }
unfolding pass
pass-is r n e =
    let l : length (zeros (min n (passable r))) ≡ min n (may_pass (room_for r) r.phase) =
    length-replicate (min n (passable r)) 0 ∙ ap (min n) (passable-is r e) in
    feed-is r (zeros (min n (passable r))) e
    ∙ ap (λ (x : Feeder). record { number = number_at x.phase; feeder = x }) (fed-as r (zeros (min n (passable r))) n e l)

pub passes-sound : (r : Feeder) (n : ℕ) → sound r ≡ true → sound (passes r n) ≡ true
passes-sound r n e =
    let m : ℕ = min n (may_pass (room_for r) r.phase) in
    ap sound (sym (fed-as r (zeros m) n e (length-replicate m 0))) ∙ still-sound r (zeros m) e

pub pass-not : (r : Feeder) (n : ℕ) → sound r ≡ false → pass r n ≡ record { number = bad_writer; feeder = r }
unfolding pass
pass-not r n e = feed-not r (zeros (min n (passable r))) e
