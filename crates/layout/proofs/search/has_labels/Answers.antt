use mathlib.Core.Path.{◌≡◌, refl, ap, sym, ◌∙◌}
use mathlib.Core.List.{List}
use Prim.Native.Nat.{ℕ, ◌<◌}
use native.Mathlib.Numerals.{add-one}
use native.Mathlib.Omega.{arith}
use lib.ListN.{length, get_or}
use lib.Seq.{take-suc, take_all, get_or-take}
use borrow.Author.Rules.{rules}
use Rattle.byte_order.proofs.Same.{exactly-refl, exactly-no}
use Rattle.layout.specs.Table.{row_order}
use Rattle.layout.proofs.search.has_labels.Goals as goal

pub loop-i-init : goal.loop-i-init
loop-i-init c = (omega arith, refl)

pub returns-then-row-i : goal.returns-then-row-i
returns-then-row-i c =
    let a = c.args in
    let i = c.loop-i.i in
    sym (exactly-no (row_order a.row) a.labels.now (λ e. c.if-row-i.true (sym (get_or-take a.row.count a.row.labels i 0 (omega arith)) ∙ ap (λ (x : List ℕ). get_or x i 0) e)))

pub loop-i-preserved : goal.loop-i-preserved
loop-i-preserved c =
    let a = c.args in
    let k : length a.row.labels ≡ 8 = search rules in
    let h1 : c.loop-i.i < length a.row.labels = omega arith in
    let h2 : c.loop-i.i < length a.labels.now = omega arith in
    (omega arith, rw (add-one, take-suc a.row.labels c.loop-i.i 0 h1, take-suc a.labels.now c.loop-i.i 0 h2, c.loop-i.invariant.1, c.if-row-i.false))

pub returns : goal.returns
returns c =
    let a = c.args in
    let e : c.loop-i.i ≡ a.row.count = omega arith in
    let k : row_order a.row ≡ a.labels.now = rw (← e) c.loop-i.invariant.1 ∙ take_all c.loop-i.i a.labels.now (omega arith) in
    sym (rw k (exactly-refl a.labels.now))
