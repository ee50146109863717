-- The feeding call of a sound record, and of one that is not.
use mathlib.Core.Path.{◌≡◌}
use mathlib.Core.Bool.{true, false}
use mathlib.Core.List.{List}
use Prim.Native.Nat.{ℕ}
use Rattle.answers.specs.Numbers.{bad_writer}
use Rattle.feeder.specs.Record.{sound}
use Rattle.feeder.specs.declared.Feeder.{Feeder}
use Rattle.feeder.proofs.Facts.{sound-facts, sound-tests}
use Rattle.feeding.specs.Feed.{number_at, feed_bytes, feed}
use Rattle.feeding.proofs.Soundness.{bytes-sound}

-- a sound record, and one that is not
pub feed-is : (r : Feeder) (bs : List ℕ) → sound r ≡ true → feed r bs ≡ record { number = number_at (feed_bytes r bs).phase; feeder = feed_bytes r bs }
unfolding feed
feed-is r bs e = rw e

pub feed-not : (r : Feeder) (bs : List ℕ) → sound r ≡ false → feed r bs ≡ record { number = bad_writer; feeder = r }
unfolding feed
feed-not r bs e = rw e

pub still-sound : (r : Feeder) (bs : List ℕ) → sound r ≡ true → sound (feed_bytes r bs) ≡ true
still-sound r bs e = sound-tests (feed_bytes r bs) (bytes-sound bs r (sound-facts r e))
