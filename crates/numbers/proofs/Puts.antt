-- Numbers put into an array, part by part.
use mathlib.Core.Path.{◌≡◌}
use mathlib.Core.List.{List, append-nil}
use Prim.Native.Nat.{ℕ, ◌+◌, ◌≤◌}
use native.Mathlib.Nat.{zero-add}
use lib.ListN.{length}
use lib.Seq.{drop-length}
use borrow.Author.Tests.{le-ltb}
use Rattle.byte_order.specs.Splice.{splice}
use Rattle.numbers.specs.Lent.{put_at}

-- where there is room
pub put-fits : (out : List ℕ) (at : ℕ) (ns : List ℕ) {after : List ℕ} → at + length ns ≤ length out → after ≡ put_at out at ns → after ≡ splice out at ns
put-fits out at ns h e = rw (le-ltb (length out) (at + length ns) h) at e

-- all places of the array: nothing of what stood there is left
pub whole : (d vs : List ℕ) → length vs ≡ length d → splice d 0 vs ≡ vs
whole d vs e = rw (zero-add, e, drop-length) (append-nil vs)
