-- 02, T-08: samples that are packed in a session come back by unpacking them in the byte order that the file itself gives.
use Rattle.std.specs.Prelude.{ℕ, ◌*◌, ◌≡◌, true, List, length, take, drop, ℤ}
use Rattle.format.specs.Flags.{endianness_of, endianness_for}
use Rattle.pcm.specs.Packing.{sample_size}
use Rattle.pcm.specs.Unpacking.{unpacked}
use Rattle.pcm.specs.RoundTrip.{kept24}
use Rattle.reading.specs.Strict.{strict}
use Rattle.reading.specs.declared.StrictInfo.{StrictInfo}
use Rattle.reading.specs.Shapes.{Accepted}
use Rattle.kept.specs.Settled.{Settled}
use Rattle.recovery.specs.Calls.{Call, samples, TypedCalls}
use Rattle.recovery.specs.Session.{Session, is_accepted, do_call, run}
use Rattle.recovery.specs.Cut.{resting, file_of}
use Rattle.recovery.specs.Sessions.{CutSession, TypedSessions, begins}

-- the rule of kept/specs/Settled holds at any time, in the first session and in any later one
abbrev pub AlwaysSettled : Type 0
AlwaysSettled =
    (lent : List ℕ) (earlier : List CutSession) (calls : List Call) → TypedSessions earlier → TypedCalls calls
    → Settled (run (begins lent earlier) calls).writer (run (begins lent earlier) calls).buffer

-- so the record's format, and the byte order in which it packs, are those of the header call, in every later session too
abbrev pub OneFormat : Type 0
OneFormat =
    (lent : List ℕ) (earlier : List CutSession) (calls : List Call) → TypedSessions earlier → TypedCalls calls
    → (run (begins lent earlier) calls).writer.has_header ≡ true
    → ((run (begins lent earlier) calls).writer.format ≡ (run (begins lent earlier) calls).at_header.format)
    × ((run (begins lent earlier) calls).writer.endianness ≡ endianness_for (run (begins lent earlier) calls).at_header.format)

-- the strict reading accepts the session's file. In its payload, after the bytes that had arrived `before`, stand the samples: unpacked in
-- the byte order that the flags of the strict reading's format give, they are what 24 bits keep of them
pub record SamplesFound (before : Session) (xs : List ℤ) (now : Session) : Type 0 where
  pub info : StrictInfo
  pub chunks : ℕ
  pub found : strict (file_of (resting now)) ≡ Accepted info chunks
  pub back : unpacked (endianness_of info.format) (take (sample_size * length xs) (drop (length before.arrived) (drop info.data_start (file_of (resting now))))) ≡ kept24 xs

-- after any earlier sessions and calls a samples call that is accepted, and after it any calls, settings among them
abbrev pub SamplesBack : Type 0
SamplesBack =
    (lent : List ℕ) (earlier : List CutSession) (before : List Call) (xs : List ℤ) (after : List Call)
    → TypedSessions earlier → TypedCalls before → TypedCalls after → is_accepted (run (begins lent earlier) before) (samples xs) ≡ true
    → SamplesFound (run (begins lent earlier) before) xs (run (do_call (run (begins lent earlier) before) (samples xs)) after)
