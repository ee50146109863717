-- Values put into a lent buffer.
use Rattle.std.specs.Prelude.{ℕ, ◌+◌, min, Bool, cond, List, ◌++◌, length, take, drop, leb}

-- n values from position p on stay within room places
abbrev pub has_room : ℕ → ℕ → ℕ → Bool
has_room p n room = leb (p + n) room

-- how many stores are done of a list of so many, with a budget of n: all that the budget allows, or none where they have no room
abbrev pub store_count : ℕ → ℕ → ℕ → ℕ → ℕ
store_count n many p room = cond (has_room p (min n many) room) (min n many) 0

module _ {ℓ} {A : Type ℓ} where
  -- buf with vs in the place of its elements from position p on; all others as they were
  abbrev pub splice : List A → ℕ → List A → List A
  splice buf p vs = take p buf ++ vs ++ drop (p + length vs) buf

  -- buf after the first n stores of vs from position p on; as it was where they have no room
  abbrev pub store_first : ℕ → List A → ℕ → List A → List A
  store_first n vs p buf = cond (has_room p (min n (length vs)) (length buf)) (splice buf p (take n vs)) buf
