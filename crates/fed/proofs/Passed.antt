-- Bytes that are passed over are as good as fed.
use mathlib.Core.Path.{◌≡◌, sym, ◌∙◌, ap}
use mathlib.Core.Bool.{true}
use mathlib.Core.List.{List}
use Prim.Native.Nat.{ℕ, ◌≤◌, min}
use native.Mathlib.Omega.{arith}
use lib.ListN.{length}
use Rattle.feeder.specs.Record.{sound}
use Rattle.feeder.specs.declared.Feeder.{Feeder}
use Rattle.feeder.proofs.Facts.{sound-facts}
use Rattle.feeding.specs.Feed.{passed_as, number_at, feed}
use Rattle.feeding.specs.Turns.{room_for}
use Rattle.feeding.specs.Pass.{may_pass, passable, pass}
use Rattle.feeding.proofs.Call.{feed-is, feed-not}
use Rattle.feeding.proofs.Passing.{bytes-passed, passable-is, pass-is, pass-not}
use Rattle.fed.specs.Claims.{PassedIsFed}
use Rattle.fed.proofs.Cut.{by-sound}

passed-sound : (r : Feeder) (bs : List ℕ) → length bs ≤ passable r → sound r ≡ true → pass r (length bs) ≡ feed r bs
passed-sound r bs l e =
    let may = passable-is r e in
    let m : min (length bs) (may_pass (room_for r) r.phase) ≡ length bs = omega arith in
    pass-is r (length bs) e
    ∙ ap (λ (x : Feeder). record { number = number_at x.phase; feeder = x })
    (ap (passed_as r.phase r) m ∙ sym (bytes-passed r bs (sound-facts r e) (omega arith)))
    ∙ sym (feed-is r bs e)

pub passed-is-fed : PassedIsFed
passed-is-fed r bs l =
    by-sound (pass r (length bs) ≡ feed r bs) (sound r)
    (passed-sound r bs l)
    (λ e. pass-not r (length bs) e ∙ sym (feed-not r bs e))
