use mathlib.Core.Bool.{false}
use mathlib.Core.Path.{◌≡◌, ap, sym, ◌∙◌}
use Prim.Native.Nat.{ℕ}
use borrow.Author.Tests.{ne_eqb}
use Rattle.layout.specs.Known.{among}
use Rattle.layout.specs.Table.{standard_layouts}
use Rattle.layout.specs.Order.{order_for, order_places}
use Rattle.layout.specs.Searched.{silent}
use Rattle.layout.proofs.Orders.{order-searched}
use Rattle.layout.proofs.named.row_of.Goals as goal

pub returns-in-7733253 : goal.returns-in-7733253
unfolding order_for standard_layouts
returns-in-7733253 c = sym (ap (λ (t : ℕ). order_places (order_for t)) c.in-7733253.is)

pub returns-in-8650756 : goal.returns-in-8650756
unfolding order_for standard_layouts
returns-in-8650756 c = sym (ap (λ (t : ℕ). order_places (order_for t)) c.in-8650756.is)

pub returns-in-9109510 : goal.returns-in-9109510
unfolding order_for standard_layouts
returns-in-9109510 c = sym (ap (λ (t : ℕ). order_places (order_for t)) c.in-9109510.is)

pub returns-in_default : goal.returns-in_default
returns-in_default c =
    let tag = c.args.tag in
    let others = c.in_default.in_default-own.rest in
    let h : among tag silent ≡ false = rw (ne_eqb _ _ others.0.0.1, ne_eqb _ _ others.0.1, ne_eqb _ _ others.1) in
    c.searched_row.ensures ∙ ap order_places (sym (order-searched tag h))
