-- 02, T-01: a whole block in turns. It costs its headers and not its length; the law `by-turns`: it is the same as byte after byte.
use Rattle.std.specs.Prelude.{ℕ, zero, suc, cond, List, [], ◌∷◌, length, take, drop, leb}
use Rattle.feeder.specs.declared.Feeder.{Feeder}
use Rattle.feeding.specs.Turns.{past_limit, room_for, takes, turn}

-- turn after turn, at most n; each takes a byte at least
unfoldable pub turns : ℕ → Feeder → List ℕ → Feeder
turns zero r bytes = r
turns (suc n) r [] = r
turns (suc n) r (b ∷ bytes) = turns n (turn r (b ∷ bytes)) (drop (takes r (length (b ∷ bytes))) (b ∷ bytes))

-- a whole block: as many of its bytes as a file may have, and TooLong if there are more
unfoldable pub by_turns : Feeder → List ℕ → Feeder
by_turns r bytes =
    cond (leb (length bytes) (room_for r)) (turns (length bytes) r bytes)
    (past_limit (turns (room_for r) r (take (room_for r) bytes)))
