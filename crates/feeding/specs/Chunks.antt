-- 02, T-01: whole chunks at the start of a block. They need not go through the record one after the other: how far they go, the last
-- header and their count say all. No definition of feeding rests on this page.
use Rattle.std.specs.Prelude.{ℕ, zero, suc, ◌+◌, ◌-◌, ◌*◌, ◌<◌, ◌≤◌, ◌≡◌, Bool, true, false, cond, List, length, take, ltb, leb}
use Rattle.reading.specs.Types.{'desc', 'data', chunk_header_size, negative}
use Rattle.reading.specs.Step.{left, stands_at, size_at}
use Rattle.feeder.specs.declared.Phase.{Phase}
use Rattle.feeder.specs.declared.Phase.TheVariants.{FileHeader, FirstHeader, Desc, Header, Skipping, Edit, OpenData, ClosedData, Refused}
use Rattle.feeder.specs.declared.Feeder.{Feeder}
use Rattle.feeding.specs.Feed.{feed_bytes}
use Rattle.feeding.specs.declared.Walk.{Walk}

-- how many bytes the chunk at p has, where it is passed over by its size and another chunk header comes after it; 0 where not
unfoldable pub whole_at : List ℕ → ℕ → ℕ
whole_at s p =
    cond (ltb (left s p) (2 * chunk_header_size)) 0
    (cond (stands_at s p 'desc') 0
    (cond (stands_at s p 'data') 0
    (cond (leb negative (size_at s p)) 0
    (cond (ltb (left s p - 2 * chunk_header_size) (size_at s p)) 0
    (chunk_header_size + size_at s p)))))

-- where the n-th of them stands, and where they end if they are n
abbrev pub chunk_at : List ℕ → ℕ → ℕ
chunk_at s zero = 0
chunk_at s (suc n) = chunk_at s n + whole_at s (chunk_at s n)

-- all of them: after them none is whole
pub record Walked (s : List ℕ) (w : Walk) : Type 0 where
  pub to : w.to ≡ chunk_at s w.chunks
  pub last : w.last ≡ chunk_at s (w.chunks - 1)
  pub whole : (m : ℕ) → m < w.chunks → 0 < whole_at s (chunk_at s m)
  pub end : whole_at s w.to ≡ 0

-- a chunk header is due
abbrev pub is_header : Phase → Bool
is_header FileHeader = false
is_header FirstHeader = false
is_header Desc = false
is_header (Header f d) = true
is_header (Skipping f d left) = false
is_header (Edit f size) = false
is_header (OpenData f start) = false
is_header (ClosedData f c left) = false
is_header (Refused number) = false

-- a record after some of the next bytes, but not all of them; its total tells after how many
pub record Past (r : Feeder) (s : List ℕ) (next : Feeder) : Type 0 where
  pub ahead : r.total ≤ next.total
  pub within : next.total - r.total ≤ length s - 1
  pub same : feed_bytes r (take (next.total - r.total) s) ≡ next
