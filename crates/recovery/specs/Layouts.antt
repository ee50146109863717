-- 02, T-03: our writer's `chan` is read as the layout that was set, unless BadLayout applies. Of the file of every session, and of what is
-- recovered after any number of them were cut.
use Rattle.format.specs.declared.AudioFormat.{AudioFormat}
use Rattle.std.specs.Prelude.{ℕ, ◌≡◌, true, Option, Some, None}
use mathlib.Core.List.{List, [], flatten}
use Rattle.std.proofs.Math.Option.{Option as MathOption, none, some}
use Rattle.layout.specs.Chan.{chan_body}
use Rattle.layout.specs.Tags as tag
use Rattle.layout.specs.declared.ChannelLayout.{ChannelLayout}
use Rattle.layout.specs.declared.ChannelLayout.TheVariants.{NoLayout, Tagged, Described}
use Rattle.chan_reading.specs.First.{says_of}
use Rattle.chan_reading.specs.Seek.{fresh, seek_all, sought}
use Rattle.chan_reading.specs.Find.{find_chan, bytes_at}
use Rattle.chan_reading.specs.Claims.{ReadsBack}
use Rattle.writer.specs.Record.{labels_of}
use Rattle.writer.specs.declared.CAFWriter.{CAFWriter}
use Rattle.recovery.specs.Calls.{Call, TypedCalls}
use Rattle.recovery.specs.Session.{run}
use Rattle.recovery.specs.Cut.{resting, file_of}
use Rattle.recovery.specs.Sessions.{CutSession, TypedSessions, remaining_after, begins}
use Rattle.recovery.specs.Demand.{IsWhole, recovered_file}

-- the body of a `chan` that a layout is written as, with the labels beside it
abbrev pub body_of : ChannelLayout → List ℕ → MathOption (List ℕ)
body_of NoLayout ls = none
body_of (Tagged t) ls = some (chan_body t [])
body_of Described ls = some (chan_body tag.UseChannelDescriptions ls)

-- how it is read, with so many channels and room for so many numbers. A tag comes back with no descriptions and with the order of its row;
-- labels come back under tag 0, each as one of the 47, with no flags and zero coordinates; 22 comes exactly where the channels are others
abbrev pub ReadAs : ChannelLayout → List ℕ → ℕ → ℕ → Type 0
ReadAs NoLayout ls channels room = Unit {0}
ReadAs (Tagged t) ls channels room = ReadsBack t [] channels room
ReadAs Described ls channels room = ReadsBack tag.UseChannelDescriptions ls channels room

-- a file that says a layout: where its first `chan` stands, what the listing says of it, however the file is cut into blocks, and how it
-- is read
pub record SaysLayout (file : List ℕ) (layout : ChannelLayout) (ls : List ℕ) (channels : ℕ) : Type 0 where
  pub found : bytes_at file (find_chan file) ≡ body_of layout ls
  pub listed : (blocks : List (List ℕ)) (room : ℕ) → flatten blocks ≡ file → sought (seek_all fresh blocks) channels room ≡ says_of (body_of layout ls) channels room
  pub read : (room : ℕ) → ReadAs layout ls channels room

-- the channels that `desc` says
abbrev pub channels_in : Option AudioFormat → ℕ
channels_in None = 0
channels_in (Some f) = f.channels_per_frame

-- the layout and the channels of a record
abbrev pub SaysLayoutOf : CAFWriter → List ℕ → Type 0
SaysLayoutOf w file = SaysLayout file w.layout (labels_of w) (channels_in w.format)

-- at any time, in the first session and in any later one, once there is a header: the file says the layout that the record had at the
-- header call, with the channels it had then
abbrev pub LayoutReadBack : Type 0
LayoutReadBack =
    (lent : List ℕ) (earlier : List CutSession) (calls : List Call) → TypedSessions earlier → TypedCalls calls
    → (run (begins lent earlier) calls).writer.has_header ≡ true
    → SaysLayoutOf (run (begins lent earlier) calls).at_header (file_of (resting (run (begins lent earlier) calls)))

-- and so does what a resume and a finish make of a file that sessions left and that is not shorter than its header
abbrev pub LayoutRecovered : Type 0
LayoutRecovered =
    (sessions : List CutSession) → TypedSessions sessions
    → IsWhole (remaining_after sessions) → SaysLayoutOf (remaining_after sessions).at_header (recovered_file (remaining_after sessions))
