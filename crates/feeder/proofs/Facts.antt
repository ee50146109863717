-- The tests of soundness, as facts, and back.
use mathlib.Core.Path.{◌≡◌, refl}
use Rattle.std.proofs.Common.{Option, Some, None}
use Rattle.std.specs.Option.{unwrap_or}
use mathlib.Core.Bool.{Bool, true, false, not, ◌&&◌, ◌||◌}
use Prim.Native.Nat.{ℕ, ◌+◌, ◌-◌, ◌*◌, ◌<◌, ◌≤◌}
use native.Mathlib.Omega.{arith}
use lib.Dec.{ltb, leb, eqb}
use borrow.Author.Tests.{eqb-true, leb-true, ltb-true, not-true, eq-eqb, le-leb, lt-ltb}
use Rattle.answers.specs.Numbers.{too_long, file_max}
use Rattle.answers.specs.Refused.{refusal_number, refusal_for}
use Rattle.answers.specs.declared.refusal.Refusal.{Refusal}
use Rattle.format.specs.declared.AudioFormat.{AudioFormat}
use Rattle.reading.specs.Types.{negative}
use Rattle.reading.specs.Rules.{is_bad_data_size}
use Rattle.reading.proofs.Choice.{both}
use Rattle.feeder.specs.Record.{fresh, piece_size, is_by_bytes, rate_is, met_within, headers_before, is_closed_size, passed_within, phase_sound, sound}
use Rattle.feeder.specs.declared.Phase.{Phase}
use Rattle.feeder.specs.declared.Phase.TheVariants.{FileHeader, FirstHeader, Desc, Header, Skipping, Edit, OpenData, ClosedData, Refused}
use Rattle.feeder.specs.declared.DataChunk.{DataChunk}
use Rattle.feeder.specs.declared.Feeder.{Feeder}

-- two tests that hold each hold together
pub join : {a b : Bool} → a ≡ true → b ≡ true → a && b ≡ true
join x y = rw (x, y)

not_is : {b : Bool} → b ≡ false → not b ≡ true
not_is x = rw x

-- the tests of soundness, as facts
pub record Met (k n : ℕ) : Type 0 where
  pub one : 1 ≤ k
  pub within : 52 + 12 * (k - 1) ≤ n

pub record InHeader (n total k : ℕ) (f : AudioFormat) : Type 0 where
  pub rate : rate_is f ≡ true
  pub come : n ≤ total
  pub met : Met k (total - n)

pub record InPassed (size start n : ℕ) : Type 0 where
  pub least : 4 ≤ size
  pub few : size < negative
  pub from : 56 ≤ start
  pub to : start ≤ n
  pub whole : size - 4 ≤ n - start

abbrev pub PassedIn : Option DataChunk → ℕ → Type 0
PassedIn None n = Unit {0}
PassedIn (Some c) n = InPassed c.size c.start n

pub record InChunk (n total k : ℕ) (f : AudioFormat) (d : Option DataChunk) : Type 0 where
  pub head : InHeader n total k f
  pub passed : PassedIn d (total - n)

pub record InSkip (total k : ℕ) (f : AudioFormat) (d : Option DataChunk) (m : ℕ) : Type 0 where
  pub rate : rate_is f ≡ true
  pub met : Met k total
  pub passed : PassedIn d total
  pub some : 1 ≤ m
  pub few : m < negative

pub record InEdit (n total k : ℕ) (f : AudioFormat) (size : ℕ) : Type 0 where
  pub rate : rate_is f ≡ true
  pub come : n ≤ total
  pub met : Met k (total - n)
  pub possible : is_bad_data_size size ≡ false

pub record InOpen (total k : ℕ) (f : AudioFormat) (start : ℕ) : Type 0 where
  pub rate : rate_is f ≡ true
  pub past : start ≤ total
  pub edit : 4 ≤ start
  pub met : Met k (start - 4)

pub record InClosed (total k : ℕ) (f : AudioFormat) (size start m : ℕ) : Type 0 where
  pub data-at : InOpen total k f start
  pub least : 4 ≤ size
  pub few : size < negative
  pub some : 1 ≤ m
  pub fits : m ≤ size - 4
  pub come : total - start ≡ size - 4 - m

abbrev pub Facts : ℕ → ℕ → ℕ → Phase → Type 0
Facts n total k FileHeader = (total ≡ n) × (k ≡ 0)
Facts n total k FirstHeader = (total ≡ 8 + n) × (k ≡ 0)
Facts n total k Desc = (total ≡ 20 + n) × (k ≡ 1)
Facts n total k (Header f d) = InChunk n total k f d
Facts n total k (Skipping f d m) = InSkip total k f d m
Facts n total k (Edit f size) = InEdit n total k f size
Facts n total k (OpenData f start) = InOpen total k f start
Facts n total k (ClosedData f c m) = InClosed total k f c.size c.start m
Facts n total k (Refused number) = (12 * k ≤ total) × (eqb number too_long || is_by_bytes number ≡ true)

met-facts : (k n : ℕ) → met_within k n ≡ true → Met k n
met-facts k n e = let (a, b) = both (leb 1 k) (leb (52 + 12 * (k - 1)) n) e in record { one = leb-true 1 k a; within = leb-true (52 + 12 * (k - 1)) n b }

pub met-far : (k n m : ℕ) → Met k n → n ≤ m → Met k m
met-far k n m a l = let b = a.within in record { one = a.one; within = omega arith }

before-facts : (n bytes k : ℕ) (f : AudioFormat) → headers_before n bytes k f ≡ true → InHeader n bytes k f
before-facts n bytes k f e =
    let (a, m) = both (rate_is f && leb n bytes) (met_within k (bytes - n)) e in
    let (r, l) = both (rate_is f) (leb n bytes) a in
    record { rate = r; come = leb-true n bytes l; met = met-facts k (bytes - n) m }

closed_facts : (size : ℕ) → is_closed_size size ≡ true → (4 ≤ size) × (size < negative)
closed_facts size e = let (a, b) = both (leb 4 size) (ltb size negative) e in (leb-true 4 size a, ltb-true size negative b)

passed-facts : (d : Option DataChunk) (n : ℕ) → passed_within d n ≡ true → PassedIn d n
passed-facts None n e = tt
passed-facts (Some chunk) n e =
    let record { size = size; start = start } = chunk in
    let (a, w) = both (is_closed_size size && leb 56 start && leb start n) (leb (size - 4) (n - start)) e in
    let (b, t) = both (is_closed_size size && leb 56 start) (leb start n) a in
    let (c, g) = both (is_closed_size size) (leb 56 start) b in
    let s = closed_facts size c in
    record { least = s.0; few = s.1; from = leb-true 56 start g; to = leb-true start n t; whole = leb-true (size - 4) (n - start) w }

open-facts : (total k : ℕ) (f : AudioFormat) (start : ℕ) → leb start total && headers_before 4 start k f ≡ true → InOpen total k f start
open-facts total k f start e =
    let (l, b) = both (leb start total) (headers_before 4 start k f) e in
    let h = before-facts 4 start k f b in
    record { rate = h.rate; past = leb-true start total l; edit = h.come; met = h.met }

facts : (n total k : ℕ) (phase : Phase) → phase_sound n total k phase ≡ true → Facts n total k phase
unfolding phase_sound
facts n total k FileHeader e = let (a, b) = both (eqb total n) (eqb k 0) e in (eqb-true total n a, eqb-true k 0 b)
facts n total k FirstHeader e = let (a, b) = both (eqb total (8 + n)) (eqb k 0) e in (eqb-true total (8 + n) a, eqb-true k 0 b)
facts n total k Desc e = let (a, b) = both (eqb total (20 + n)) (eqb k 1) e in (eqb-true total (20 + n) a, eqb-true k 1 b)
facts n total k (Header f d) e =
    let (a, b) = both (headers_before n total k f) (passed_within d (total - n)) e in
    record { head = before-facts n total k f a; passed = passed-facts d (total - n) b }
facts n total k (Skipping f d m) e =
    let (a, l) = both (headers_before 0 total k f && passed_within d total && leb 1 m) (ltb m negative) e in
    let (b, s) = both (headers_before 0 total k f && passed_within d total) (leb 1 m) a in
    let (c, p) = both (headers_before 0 total k f) (passed_within d total) b in
    let h = before-facts 0 total k f c in
    record { rate = h.rate; met = met-far k (total - 0) total h.met (omega arith); passed = passed-facts d total p; some = leb-true 1 m s; few = ltb-true m negative l }
facts n total k (Edit f size) e =
    let (a, p) = both (headers_before n total k f) (not (is_bad_data_size size)) e in
    let h = before-facts n total k f a in
    record { rate = h.rate; come = h.come; met = h.met; possible = not-true (is_bad_data_size size) p }
facts n total k (OpenData f start) e = open-facts total k f start e
facts n total k (ClosedData f chunk m) e =
    let record { size = size; start = start } = chunk in
    let (a, q) = both (leb start total && headers_before 4 start k f && is_closed_size size && leb 1 m && leb m (size - 4)) (eqb (total - start) (size - 4 - m)) e in
    let (b, g) = both (leb start total && headers_before 4 start k f && is_closed_size size && leb 1 m) (leb m (size - 4)) a in
    let (c, s) = both (leb start total && headers_before 4 start k f && is_closed_size size) (leb 1 m) b in
    let (o, z) = both (leb start total && headers_before 4 start k f) (is_closed_size size) c in
    let y = closed_facts size z in
    record {
      data-at = open-facts total k f start o;
      least = y.0;
      few = y.1;
      some = leb-true 1 m s;
      fits = leb-true m (size - 4) g;
      come = eqb-true (total - start) (size - 4 - m) q;
    }
facts n total k (Refused number) e = let (a, b) = both (leb (12 * k) total) (eqb number too_long || is_by_bytes number) e in (leb-true (12 * k) total a, b)

met-tests : (k n : ℕ) → Met k n → met_within k n ≡ true
met-tests k n m = join (le-leb 1 k m.one) (le-leb (52 + 12 * (k - 1)) n m.within)

before-tests : (n bytes k : ℕ) (f : AudioFormat) → InHeader n bytes k f → headers_before n bytes k f ≡ true
before-tests n bytes k f a = join (join a.rate (le-leb n bytes a.come)) (met-tests k (bytes - n) a.met)

closed-tests : (size : ℕ) → 4 ≤ size → size < negative → is_closed_size size ≡ true
closed-tests size a b = join (le-leb 4 size a) (lt-ltb size negative b)

passed-tests : (d : Option DataChunk) (n : ℕ) → PassedIn d n → passed_within d n ≡ true
passed-tests None n a = refl
passed-tests (Some chunk) n a =
    let record { size = size; start = start } = chunk in
    join (join (join (closed-tests size a.least a.few) (le-leb 56 start a.from)) (le-leb start n a.to)) (le-leb (size - 4) (n - start) a.whole)

open-tests : (total k : ℕ) (f : AudioFormat) (start : ℕ) → InOpen total k f start → leb start total && headers_before 4 start k f ≡ true
open-tests total k f start a = join (le-leb start total a.past) (before-tests 4 start k f (record { rate = a.rate; come = a.edit; met = a.met }))

tests : (n total k : ℕ) (phase : Phase) → Facts n total k phase → phase_sound n total k phase ≡ true
unfolding phase_sound
tests n total k FileHeader a = join (eq-eqb total n a.0) (eq-eqb k 0 a.1)
tests n total k FirstHeader a = join (eq-eqb total (8 + n) a.0) (eq-eqb k 0 a.1)
tests n total k Desc a = join (eq-eqb total (20 + n) a.0) (eq-eqb k 1 a.1)
tests n total k (Header f d) a = join (before-tests n total k f a.head) (passed-tests d (total - n) a.passed)
tests n total k (Skipping f d m) a =
    join (join (join (before-tests 0 total k f (record { rate = a.rate; come = omega arith; met = met-far k total (total - 0) a.met (omega arith) }))
    (passed-tests d total a.passed)) (le-leb 1 m a.some)) (lt-ltb m negative a.few)
tests n total k (Edit f size) a = join (before-tests n total k f (record { rate = a.rate; come = a.come; met = a.met })) (not_is a.possible)
tests n total k (OpenData f start) a = open-tests total k f start a
tests n total k (ClosedData f chunk m) a =
    let record { size = size; start = start } = chunk in
    join (join (join (join (open-tests total k f start a.data-at) (closed-tests size a.least a.few)) (le-leb 1 m a.some)) (le-leb m (size - 4) a.fits))
    (eq-eqb (total - start) (size - 4 - m) a.come)
tests n total k (Refused number) a = join (le-leb (12 * k) total a.0) a.1

pub record Sound (r : Feeder) : Type 0 where
  pub total : r.total ≤ file_max
  pub few : r.count ≤ piece_size r.phase - 1
  pub facts : Facts r.count r.total r.chunks r.phase

pub sound-facts : (r : Feeder) → sound r ≡ true → Sound r
unfolding sound
sound-facts r e =
    let (a, b) = both (leb r.total file_max && leb r.count (piece_size r.phase - 1)) (phase_sound r.count r.total r.chunks r.phase) e in
    let (c, d) = both (leb r.total file_max) (leb r.count (piece_size r.phase - 1)) a in
    record {
      total = leb-true r.total file_max c;
      few = leb-true r.count (piece_size r.phase - 1) d;
      facts = facts r.count r.total r.chunks r.phase b;
    }

pub sound-tests : (r : Feeder) → Sound r → sound r ≡ true
unfolding sound
sound-tests r a =
    join (join (le-leb r.total file_max a.total) (le-leb r.count (piece_size r.phase - 1) a.few))
    (tests r.count r.total r.chunks r.phase a.facts)

-- what each of two tests tells is told where one of them holds
by-one : {T : Type 0} {a b : Bool} → (a ≡ true → T) → (b ≡ true → T) → a || b ≡ true → T
by-one {a = true} f g e = f refl
by-one {a = false} f g e = g e

-- a number that a refusal has
abbrev Told : Refusal → ℕ → Type 0
Told other number = refusal_number (unwrap_or (refusal_for number) other) ≡ number

told-same : (number : ℕ) (other : Refusal) (n : ℕ) → Told other n → eqb number n ≡ true → Told other number
told-same number other n t e = rw (eqb-true number n e) t

-- the number of a refused phase is that of a refusal, where the record is sound
pub told : (number : ℕ) (other : Refusal) → eqb number too_long || is_by_bytes number ≡ true → Told other number
told number other = search (by-one, told-same) depth 16 fits 4000

-- a record that is fed too much
pub chunks-few : (n t k : ℕ) (phase : Phase) → Facts n t k phase → 12 * k ≤ t
chunks-few n t k FileHeader a = omega arith
chunks-few n t k FirstHeader a = omega arith
chunks-few n t k Desc a = omega arith
chunks-few n t k (Header f d) a = let m = a.head.met.within in let o = a.head.met.one in omega arith
chunks-few n t k (Skipping f d m) a = let m = a.met.within in let o = a.met.one in omega arith
chunks-few n t k (Edit f size) a = let m = a.met.within in let o = a.met.one in omega arith
chunks-few n t k (OpenData f start) a = let m = a.met.within in let o = a.met.one in let p = a.past in omega arith
chunks-few n t k (ClosedData f c m) a = let q = a.data-at.met.within in let o = a.data-at.met.one in let p = a.data-at.past in omega arith
chunks-few n t k (Refused number) a = a.0

pub fresh-sound : Sound fresh
fresh-sound = record { total = omega arith; few = omega arith; facts = (refl, refl) }

-- a sound record that stands in open data, that is refused, or where a chunk header is due
pub in-open : (r : Feeder) {f : AudioFormat} {start : ℕ} → sound r ≡ true → r.phase ≡ OpenData f start → InOpen r.total r.chunks f start
in-open r s e = rw e at (sound-facts r s).facts

pub in-refused : (r : Feeder) {number : ℕ} → sound r ≡ true → r.phase ≡ Refused number → eqb number too_long || is_by_bytes number ≡ true
in-refused r s e = (rw e at (sound-facts r s).facts).1

pub in-chunk : (r : Feeder) {f : AudioFormat} {d : Option DataChunk} → sound r ≡ true → r.phase ≡ Header f d → InChunk r.count r.total r.chunks f d
in-chunk r s e = rw e at (sound-facts r s).facts

pub passed_is : (d : Option DataChunk) (n : ℕ) → PassedIn d n → passed_within d n ≡ true
passed_is = passed-tests
