-- Numbers that go to a lent array.
use Rattle.std.specs.Prelude.{ℕ, ◌+◌, cond, List, length, ltb}
use Rattle.answers.specs.Numbers.{no_room_left}
use Rattle.byte_order.specs.Splice.{splice}

-- an array with fewer places than the call may need is refused (NoRoom) before anything else
abbrev pub number_given : ℕ → List ℕ → ℕ → ℕ
number_given places out number = cond (ltb (length out) places) no_room_left number

-- the array afterwards: the numbers from its start on, and all other places as they were
abbrev pub lent_after : ℕ → List ℕ → List ℕ → List ℕ
lent_after places out numbers = cond (ltb (length out) places) out (splice out 0 numbers)

-- numbers put from a place on, where there is room for all of them; else none is put
abbrev pub put_at : List ℕ → ℕ → List ℕ → List ℕ
put_at out at numbers = cond (ltb (length out) (at + length numbers)) out (splice out at numbers)
