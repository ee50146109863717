use Rattle.std.proofs.Common.{ℕ, ◌+◌, ◌≤◌, List, length, arith, sym, ◌∙◌, ap}
use Rattle.std.proofs.lemmas.Result.{err_from_is_err_and}
use mathlib.Core.Bool.{cond}
use Rattle.answers.specs.Numbers.{done}
use Rattle.byte_order.specs.Splice.{store_count, store_first}
use Rattle.writer.specs.Record.{as_finished}
use Rattle.writer.specs.Outcome.{stores, unchanged}
use Rattle.writer.specs.Finish.{finish_number, final_size, finish_call}
use Rattle.writer.proofs.Tests.{refusal-not_done}
use Rattle.writer.proofs.Facts.{sound-alone, in-room, headed}
use Rattle.writer.proofs.Allowed.{finish-number, finish-sound, finish-header}
use Rattle.writer.proofs.Counting.{counted-unchanged, counted-refused, counted-stored, finish-going}
use Rattle.writer.proofs.CAFWriter.finish_counted.Goals as goal

pub returns-in_err-check_finish : goal.returns-in_err-check_finish
unfolding finish_call
returns-in_err-check_finish c =
    let a = c.args in
    let w = a.self in
    let p = err_from_is_err_and c.from_residual.result c.from_residual.ensures.1 in
    let is = finish-number w (length a.buf.now) c.standing.result c.standing.ensures c.in_err-check_finish.ensures in
    rw (p.1, p.2, ← is) (counted-refused a.n w a.buf.now _ (cond w.finished (unchanged done w) (stores w.size_position (final_size w) (as_finished w))) (refusal-not_done _))

pub returns-then-self : goal.returns-then-self
unfolding finish_call
returns-then-self c =
    let a = c.args in
    let is = finish-number a.self (length a.buf.now) c.standing.result c.standing.ensures c.in_ok-check_finish.ensures in
    rw (← is, c.if-self.true) (counted-unchanged a.n a.self a.buf.now done)

pub final_size-requires : goal.final_size-requires
final_size-requires c =
    let w = c.args.self in
    let room = length c.args.buf.now in
    let z = sym (finish-number w room c.standing.result c.standing.ensures c.in_ok-check_finish.ensures) in
    let s = sound-alone w room (finish-sound w room z) in
    ((headed w (finish-header w room z c.if-self.false) s.places).to, s.in-file)

pub returns : goal.returns
returns c =
    let a = c.args in
    let w = a.self in
    let room = length a.buf.now in
    let z = sym (finish-number w room c.standing.result c.standing.ensures c.in_ok-check_finish.ensures) in
    let t = finish-sound w room z in
    let p = headed w (finish-header w room z c.if-self.false) (sound-alone w room t).places in
    let h : w.size_position + length (final_size w) ≤ room = omega (arith, p.apart, p.to, in-room w room t) in
    let k = c.store-stores.ensures.0 ∙ ap (λ (l : List ℕ). store_count a.n (length l) w.size_position room) c.final_size.ensures in
    let b = c.store-stores.ensures.1 ∙ ap (λ (l : List ℕ). store_first a.n l w.size_position a.buf.now) c.final_size.ensures in
    let d = counted-stored a.n w a.buf.now (finish_number w room) w.size_position (final_size w) (as_finished w) z h c.store-stores.result _ k b in
    rw (finish-going w room c.if-self.false) (rw c.with_stores.ensures d.0, d.1)
