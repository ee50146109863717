use mathlib.Core.Path.{◌≡◌, ap, sym, ◌∙◌}
use mathlib.Core.List.{List}
use Prim.Native.Nat.{suc, ◌+◌}
use native.Mathlib.Omega.{arith}
use native.Mathlib.Numerals.{add-one}
use lib.ListN.{drop, drop_of_length-le}
use Rattle.layout.specs.Table.{StandardLayout}
use Rattle.layout.specs.Searched.{searched, rows_before}
use Rattle.layout.proofs.Searched.{«40-rows», next_row}
use Rattle.layout.proofs.search.rows_before.Goals as goal

pub loop-i-init : goal.loop-i-init
loop-i-init c = (omega arith, omega arith)

pub returns-then-matches : goal.returns-then-matches
returns-then-matches c =
    let ls = c.args.labels.now in
    let e : rows_before (drop c.loop-i.i searched) ls ≡ 0 = next_row c.loop-i.i ls (omega arith) ∙ rw (sym c.matches.ensures ∙ c.if-matches.true) in
    omega (arith, c.loop-i.invariant.1, e)

pub loop-i-preserved : goal.loop-i-preserved
loop-i-preserved c =
    let ls = c.args.labels.now in
    let e : rows_before (drop c.loop-i.i searched) ls ≡ suc (rows_before (drop (suc c.loop-i.i) searched) ls) = next_row c.loop-i.i ls (omega arith) ∙ rw (sym c.matches.ensures ∙ c.if-matches.false) in
    (omega arith, rw add-one (omega (arith, c.loop-i.invariant.1, e)))

pub returns : goal.returns
returns c =
    let e = c.loop-i.invariant.1 ∙ ap (λ (rs : List StandardLayout). c.loop-i.i + rows_before rs c.args.labels.now) (drop_of_length-le searched {i = c.loop-i.i} (rw «40-rows» (omega arith))) in
    omega (arith, e)
