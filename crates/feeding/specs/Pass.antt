-- 02, T-01: bytes that are passed over. Whoever can move on in a file without reading it need not bring those that nothing depends on.
use Rattle.std.specs.Prelude.{ℕ, min, cond, replicate}
use Rattle.feeder.specs.Record.{sound}
use Rattle.feeder.specs.declared.Phase.{Phase}
use Rattle.feeder.specs.declared.Phase.TheVariants.{FileHeader, FirstHeader, Desc, Header, Skipping, Edit, OpenData, ClosedData, Refused}
use Rattle.feeder.specs.declared.Feeder.{Feeder}
use Rattle.feeding.specs.Feed.{feed}
use Rattle.feeding.specs.Turns.{room_for}
use Rattle.feeding.specs.Feed.{Fed}

-- with room for so many bytes in a file: the rest of a skipped body and of closed data, and of open data all. After a refusal nothing is
-- read any more, and so nothing passed over
abbrev pub may_pass : ℕ → Phase → ℕ
may_pass room FileHeader = 0
may_pass room FirstHeader = 0
may_pass room Desc = 0
may_pass room (Header f d) = 0
may_pass room (Skipping f d left) = min left room
may_pass room (Edit f size) = 0
may_pass room (OpenData f start) = room
may_pass room (ClosedData f c left) = min left room
may_pass room (Refused number) = 0

-- how many of the next bytes may be passed over; of an unsound record none
unfoldable pub passable : Feeder → ℕ
passable r = cond (sound r) (may_pass (room_for r) r.phase) 0

-- n bytes are passed over, or as many of them as may be: it is as if they were fed. Zeros stand for them here; the law `passed-is-fed` of
-- crate fed: so would any others
unfoldable pub pass : Feeder → ℕ → Fed
pass r n = feed r (replicate (min n (passable r)) 0)
