use mathlib.Core.Path.{◌≡◌, sym, ◌∙◌, ap}
use Rattle.feeder.specs.Record.{sound}
use Rattle.feeder.specs.declared.Feeder.{Feeder}
use Rattle.feeder.proofs.Facts.{sound-facts}
use Prim.Native.Nat.{min}
use native.Mathlib.Omega.{arith}
use Rattle.feeding.specs.Feed.{Fed, passed_as, number_at}
use Rattle.feeding.specs.Turns.{room_for}
use Rattle.feeding.proofs.Passing.{may-wanted, passes, passes-sound, pass-is, pass-not}
use Rattle.feeding.proofs.pass.pass.Goals as goal

pub returns-then-not-is_sound : goal.returns-then-not-is_sound
returns-then-not-is_sound c =
    let e = pass-not c.args.r c.args.n (sym c.is_sound.ensures ∙ c.if-not-is_sound.true) in
    record { number = sym (ap (λ (x : Fed). x.number) e); feeder = sym (ap (λ (x : Fed). x.feeder) e) }

pub overflow_sub-room : goal.overflow_sub-room
overflow_sub-room c = (sound-facts c.args.r (sym c.if-not-is_sound.ensures)).total

pub passed-feeder-requires : goal.passed-feeder-requires
passed-feeder-requires c =
    let r = c.args.r in
    let t = (sound-facts r (sym c.if-not-is_sound.ensures)).total in
    let w = may-wanted r.count c.min.result (room_for r) r.phase (omega (arith, c.min.ensures, c.may_pass.ensures)) in
    (w.0, omega (arith, t, w.1))

pub outcome_at-requires : goal.outcome_at-requires
outcome_at-requires c =
    let a = c.args in
    let p : c.passed-feeder.result ≡ passes a.r a.n = c.passed-feeder.ensures ∙ ap (passed_as a.r.phase a.r) (c.min.ensures ∙ ap (min a.n) c.may_pass.ensures) in
    ap sound p ∙ passes-sound a.r a.n (sym c.if-not-is_sound.ensures)

pub returns : goal.returns
returns c =
    let a = c.args in
    let p : c.passed-feeder.result ≡ passes a.r a.n = c.passed-feeder.ensures ∙ ap (passed_as a.r.phase a.r) (c.min.ensures ∙ ap (min a.n) c.may_pass.ensures) in
    let e = pass-is a.r a.n (sym c.if-not-is_sound.ensures) in
    record {
      number = c.outcome_at.ensures ∙ ap (λ (x : Feeder). number_at x.phase) p ∙ sym (ap (λ (x : Fed). x.number) e);
      feeder = p ∙ sym (ap (λ (x : Fed). x.feeder) e);
    }
