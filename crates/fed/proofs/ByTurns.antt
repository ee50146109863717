-- Turn after turn is byte after byte, also beyond the limit.
use mathlib.Core.Path.{◌≡◌, refl, sym, ◌∙◌, ap}
use mathlib.Core.List.{List, [], ◌∷◌, foldl-append}
use Prim.Native.Nat.{ℕ, zero, suc, ◌+◌, ◌-◌, ◌≤◌}
use native.Mathlib.Omega.{arith}
use lib.ListN.{length, take, drop, take-append-drop, length-drop}
use lib.Seq.{length-take-le}
use lib.Dec.{leb}
use borrow.Author.Tests.{leb-true, leb-false}
use Rattle.answers.specs.Numbers.{file_max}
use Rattle.reading.proofs.Choice.{either}
use Rattle.feeder.specs.declared.Feeder.{Feeder}
use Rattle.feeder.proofs.Facts.{Sound, sound-facts}
use Rattle.feeding.specs.Feed.{step1, feed_bytes}
use Rattle.feeding.specs.Turns.{takes, room_for, past_limit}
use Rattle.feeding.proofs.Soundness.{bytes-sound}
use Rattle.feeding.proofs.Turns.{bytes_past, bytes-steady, turn_is, turn-takes}
use Rattle.fed.specs.ByTurns.{turns, by_turns}
use Rattle.fed.specs.Claims.{ByTurns}

-- turn after turn
pub turns-is : (m : ℕ) (r : Feeder) (bs : List ℕ) → Sound r → length r.held ≡ 32 → length bs ≤ m → r.total + length bs ≤ file_max → turns m r bs ≡ feed_bytes r bs
unfolding turns
turns-is zero r [] a e l g = refl
turns-is zero r (b ∷ bs) a e l g = absurd (let z : ⊥ = omega arith in z)
turns-is (suc m) r [] a e l g = refl
turns-is (suc m) r (b ∷ bs) a e l g =
    let all : List ℕ = b ∷ bs in
    let k : ℕ = takes r (length all) in
    let i = turn_is r (b ∷ bs) a e (omega arith) g in
    let t = turn-takes r (suc (length bs)) a (omega arith) in
    let p : length (take (takes r (suc (length bs))) (b ∷ bs)) ≡ takes r (suc (length bs)) = length-take-le (takes r (suc (length bs))) (b ∷ bs) t.1 in
    let d : length (drop (takes r (suc (length bs))) (b ∷ bs)) ≡ suc (length bs) - takes r (suc (length bs)) = length-drop (takes r (suc (length bs))) (b ∷ bs) in
    let s = bytes-sound (take (takes r (suc (length bs))) (b ∷ bs)) r a in
    let y = bytes-steady (take (takes r (suc (length bs))) (b ∷ bs)) r a e in
    ap (λ (x : Feeder). turns m x (drop k all)) (sym i)
    ∙ turns-is m (feed_bytes r (take k all)) (drop k all) s (y.room ∙ e) (omega (arith, t.0, d)) (omega (arith, t.0, t.1, d, p, y.counts))
    ∙ sym (foldl-append step1 r (take k all) (drop k all))
    ∙ ap (λ (x : List ℕ). feed_bytes r x) (take-append-drop k all)

-- a block in turns
pub by-turns : ByTurns
unfolding by_turns
by-turns r bs e g =
    let a = sound-facts r e in
    let l = a.total in
    either (λ (x : Feeder). x ≡ feed_bytes r bs) (leb (length bs) (room_for r))
    (λ x. let w = leb-true (length bs) (room_for r) x in turns-is (length bs) r bs a g (omega arith) (omega arith))
    (λ x. let w = leb-false (length bs) (room_for r) x in
    let p : length (take (room_for r) bs) ≡ room_for r = length-take-le (room_for r) bs (omega arith) in
    ap past_limit (turns-is (room_for r) r (take (room_for r) bs) a g (omega arith) (omega arith)) ∙ sym (bytes_past r bs a w))
