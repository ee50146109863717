use mathlib.Core.Option.{none, some}
use mathlib.Core.Path.{◌≡◌, refl, ap, sym, ◌∙◌}
use native.Mathlib.Omega.{arith}
use native.Mathlib.Numerals.{add-one}
use lib.ListN.{get_or, drop_of_length-le}
use borrow.Author.Tests.{eq-eqb, ne_eqb}
use Rattle.layout.specs.Table.{beyond}
use Rattle.layout.specs.Order.{order_in, order_places, row_named}
use Rattle.layout.specs.Searched.{searched}
use Rattle.layout.proofs.Searched.{«40-rows»}
use Rattle.layout.proofs.Places.{searched-after}
use Rattle.layout.proofs.Orders.{next-order, named-row}
use Rattle.layout.proofs.named.searched_row.Goals as goal

pub loop-i-init : goal.loop-i-init
loop-i-init c = (omega arith, refl)

pub returns-then-row-tag : goal.returns-then-row-tag
returns-then-row-tag c =
    let tag = c.args.tag in
    let e : order_in searched tag ≡ some (get_or searched c.loop-i.i beyond).order =
    c.loop-i.invariant.1 ∙ next-order c.loop-i.i tag c.searched_at-row.result c.searched_at-row.ensures (omega arith) ∙ rw (eq-eqb _ _ c.if-row-tag.true) in
    named-row c.loop-i.i c.searched_at-row.result c.searched_at-row.ensures ∙ ap order_places (sym e)

pub loop-i-preserved : goal.loop-i-preserved
loop-i-preserved c =
    let tag = c.args.tag in
    (omega arith, rw add-one (c.loop-i.invariant.1 ∙ next-order c.loop-i.i tag c.searched_at-row.result c.searched_at-row.ensures (omega arith) ∙ rw (ne_eqb _ _ c.if-row-tag.false)))

pub returns : goal.returns
returns c =
    let tag = c.args.tag in
    let e : order_in searched tag ≡ none = c.loop-i.invariant.1 ∙ rw (drop_of_length-le searched {i = c.loop-i.i} (rw «40-rows» (omega arith))) in
    ap row_named (c.searched_at.ensures ∙ sym (searched-after 40 (omega arith))) ∙ ap order_places (sym e)
