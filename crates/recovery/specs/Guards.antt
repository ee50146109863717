-- What keeps demand 3 from saying too little: every file that is left is of one of its two kinds, every call that a program can make is
-- among its calls, an example with labels, samples and bytes meets its hypotheses, and what a reader needs of it follows from it.
use Rattle.std.specs.Prelude.{ℕ, ◌<◌, ◌^◌, ◌≡◌, true, false, ◌⊎◌, length, take, drop, T, ℤ, pos, negsuc, Float}
use mathlib.Core.List.{List, [], ◌∷◌, foldl}
use Rattle.std.specs.Float.{binary64}
use Rattle.std.specs.Float.Ieee.{fits}
use Rattle.answers.specs.Numbers.{done, bad_size, data_past_end}
use Rattle.format.specs.declared.PCMDataType.{PCMDataType}
use Rattle.format.specs.declared.Endianness.{Endianness}
use Rattle.layout.specs.Labels as label
use Rattle.reading.specs.Answers.{plain_number, strict_number}
use Rattle.reading.specs.Claims.{Bytes}
use Rattle.reading.specs.Plain.{plain}
use Rattle.reading.specs.Strict.{strict}
use Rattle.reading.specs.declared.StrictInfo.{StrictInfo}
use Rattle.reading.specs.Shapes.{Accepted, Rejected}
use Rattle.writer.specs.Header.{header_bytes_of}
use Rattle.recovery.specs.Calls.{Call, set, format, tag, labels, configure, group, header, bytes, samples, finish, lend, Numbers32, TypedCall, TypedCalls}
use Rattle.recovery.specs.Session.{Session, is_accepted}
use Rattle.recovery.specs.Cut.{LastCall, Remains, remains, resting, file_of, uncut}
use Rattle.recovery.specs.Sessions.{CutSession, TypedSessions, resume_of, resume_cut, resumed_from, remaining_after, begins}
use Rattle.recovery.specs.Demand.{IsShort, IsWhole, recovered_file, Bills, header_chunks, Holds, BilledRight, FoundAsWritten, UncutSession}
use Rattle.recovery.specs.Figures.{rate48000, room}

abbrev pub ShortOrWhole : Type 0
ShortOrWhole = (r : Remains) → IsShort r ⊎ IsWhole r

-- arguments of the code's types are all that a call needs
pub record CallsAreTyped : Type 0 where
  pub format : (rate : Float) (channels bits : ℕ) (t : PCMDataType) (e : Endianness) → T (fits binary64 rate) → channels < 2 ^ 32 → bits < 2 ^ 32 → TypedCall (set (format rate channels bits t e))
  pub tag : (t : ℕ) → t < 2 ^ 32 → TypedCall (set (tag t))
  pub labels : (ls : List ℕ) (channels : ℕ) → Numbers32 ls → channels < 2 ^ 32 → TypedCall (set (labels ls channels))
  pub configure : (rate : Float) (channels bits : ℕ) (ls : List ℕ) → T (fits binary64 rate) → channels < 2 ^ 32 → bits < 2 ^ 32 → Numbers32 ls → TypedCall (set (configure rate channels bits ls))
  pub group : (g : ℕ) → g < 2 ^ 32 → TypedCall (set (group g))
  pub header : TypedCall header
  pub bytes : (bs : List ℕ) → Bytes bs → TypedCall (bytes bs)
  pub samples : (xs : List ℤ) → TypedCall (samples xs)
  pub finish : TypedCall finish
  pub lend : (more : List ℕ) → TypedCall (lend more)
  -- and such calls, in any number, are all that a session needs, and such sessions, in any number, all that a list of them needs
  pub no_call : TypedCalls []
  pub one_more : (c : Call) (cs : List Call) → TypedCall c → TypedCalls cs → TypedCalls (c ∷ cs)
  pub no-session : TypedSessions []
  pub next-session : (lent : List ℕ) (calls : List Call) (stores : ℕ) (cs : List CutSession) → TypedCalls calls → TypedSessions cs
      → TypedSessions (record { lent = lent; calls = calls; stores = stores } ∷ cs)

-- document 01's example with its labels exchanged, its finish cut after five stores; then a session that dies in its data
abbrev pub example_sessions : List CutSession
example_sessions =
    record {
      lent = room 200;
      calls = set (configure rate48000 2 24 (label.Left ∷ label.Right ∷ [])) ∷ set (labels (label.Right ∷ label.Left ∷ []) 2) ∷ header ∷ samples (pos 1 ∷ negsuc 0 ∷ []) ∷ finish ∷ [];
      stores = 5;
    } ∷
    record { lent = room 3; calls = bytes (7 ∷ 8 ∷ 9 ∷ []) ∷ []; stores = 2 } ∷ []

abbrev pub example_leaves : Remains
example_leaves = remaining_after example_sessions

-- it is within the theorems. That it is whole, and what arrived, are rows of Reopened
pub record ExampleHolds : Type 0 where
  pub typed : TypedSessions example_sessions
  pub holds : Holds example_leaves
  pub billed : BilledRight example_leaves

-- the strict reading of this file bills the data that arrived, as a closed file's
abbrev pub BilledClosed : Remains → List ℕ → Type 0
BilledClosed r file = (v : StrictInfo) × (strict file ≡ Accepted v (header_chunks r.at_header)) × Bills r v × (v.«open» ≡ false)

-- What a reader takes from demand 3 and the bill of what was left, and from nothing else: so neither can say less
pub record Follows (r : Remains) : Type 0 where
  -- what a reading or a resume takes is whole, and so is what holds data
  pub read : plain_number (plain (file_of r)) ≡ done → IsWhole r
  pub accepted : strict_number (strict (file_of r)) ≡ done → IsWhole r
  pub resumed : (resume_of r).number ≡ done → IsWhole r
  pub holding : 0 < length r.arrived → IsWhole r
  -- resumes of a part of a header leave it, however many, wherever each is cut
  pub stays : IsShort r → (cuts : List ℕ) → foldl resume_cut r cuts ≡ r
  -- a whole file is refused with one of two numbers, the second after a cut within a reopening, and with the chunks of its header
  pub refused : IsWhole r → (number k : ℕ) → strict (file_of r) ≡ Rejected number k
      → (k ≡ header_chunks r.at_header) × ((number ≡ data_past_end) ⊎ ((number ≡ bad_size) × (r.in_reopening ≡ true)))
  -- an accepted one has these chunks too; its payload is the data that arrived, and below 2^63
  pub billed : (v : StrictInfo) (k : ℕ) → strict (file_of r) ≡ Accepted v k
      → (k ≡ header_chunks r.at_header) × (take v.payload (drop v.data_start (file_of r)) ≡ r.arrived) × (v.payload < 2 ^ 63)
  -- a resume of a whole file is accepted, and a finish after it; the file of a writer that was never cut, which they make, is billed closed
  pub recovers : IsWhole r → ((resume_of r).number ≡ done) × (is_accepted (resumed_from r) finish ≡ true) × BilledClosed r (uncut r.at_header r.arrived)

abbrev pub DemandFollows : Type 0
DemandFollows = (r : Remains) → Holds r → BilledRight r → Follows r

-- and from a session that was never cut: the recovered file reads as that session's, closed, with the format at the header call and the data
-- that arrived
abbrev pub UncutFollows : Type 0
UncutFollows = (r : Remains) → UncutSession r → BilledClosed r (recovered_file r)

-- from what is said of a cut before a finish: the last accepted call of a session is a finish, or what it left is found open
abbrev pub IsOpen : Remains → Type 0
IsOpen r = (v : StrictInfo) × (k : ℕ) × (strict (file_of r) ≡ Accepted v k) × (v.«open» ≡ true)

abbrev pub FinishOrOpen : Type 0
FinishOrOpen =
    (lent : List ℕ) (earlier : List CutSession) (calls : List Call) (n : ℕ) → TypedSessions earlier → TypedCalls calls
    → (l : LastCall (begins lent earlier) calls) → IsWhole (remains l n) → (l.last ≡ finish) ⊎ IsOpen (remains l n)

-- and of a session at rest: the data that arrived stand after its header
abbrev pub WrittenFollows : Type 0
WrittenFollows =
    (s : Session) → FoundAsWritten s
    → take (length s.arrived) (drop (length (header_bytes_of s.at_header)) (file_of (resting s))) ≡ s.arrived
