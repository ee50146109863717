-- 02, T-03: where the first `chan` before the data stands, for a caller that holds the whole file. Like the search in blocks (Seek) it walks
-- by sizes alone, from the file header on, and refuses nothing: whether the bytes are a file is the strict reading's to say.
use Rattle.std.specs.Prelude.{ℕ, zero, suc, ◌+◌, ◌-◌, cond, List, length, take, drop, ltb, Some, None}
use Rattle.std.proofs.Math.Option.{Option, none, some}
use Rattle.reading.specs.Types.{'chan', 'data', file_header_size, chunk_header_size}
use Rattle.reading.specs.Step.{left, stands_at, size_at, body_at}
use Rattle.std.specs.declared.option.Option as std
use Rattle.reading.specs.declared.Body.{Body}

-- the chunk at p, with the way on handed in: `on q` is the search from position q. It ends where no whole chunk header is left, at the
-- data, and at a body that runs past the end
abbrev pub find_step : (ℕ → std.Option Body) → List ℕ → ℕ → std.Option Body
find_step on s p =
    cond (ltb (left s p) chunk_header_size) None
    (cond (stands_at s p 'data') None
    (cond (ltb (left s (body_at p)) (size_at s p)) None
    (cond (stands_at s p 'chan') (Some (record { start = body_at p; size = size_at s p }))
    (on (body_at p + size_at s p)))))

-- at most n chunks. The first line is never met from `find_from`: every step goes at least 12 bytes on
unfoldable pub find_within : ℕ → List ℕ → ℕ → std.Option Body
find_within zero s p = None
find_within (suc n) s p = find_step (find_within n s) s p

-- the search from position p. The law `find-on` of proofs/FindOn says what it is: find_from s p ≡ find_step (find_from s) s p
unfoldable pub find_from : List ℕ → ℕ → std.Option Body
find_from s p = find_within (suc (length s - p)) s p

abbrev pub find_chan : List ℕ → std.Option Body
find_chan s = find_from s file_header_size

-- the bytes that stand at a place
abbrev pub bytes_at : List ℕ → std.Option Body → Option (List ℕ)
bytes_at s (Some b) = some (take b.size (drop b.start s))
bytes_at s None = none
