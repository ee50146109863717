use mathlib.Core.Path.{◌≡◌, refl, sym, ap, ◌∙◌}
use Prim.Native.Nat.{◌-◌}
use native.Mathlib.Omega.{arith}
use Rattle.layout.specs.Table.{standard_layouts, row_at}
use Rattle.layout.specs.Searched.{searched, searched_at}
use Rattle.layout.proofs.Places.{in-run, in_rest}
use Rattle.layout.proofs.table.row_at.Goals as goal

pub returns-in-16 : goal.returns-in-16
unfolding standard_layouts
returns-in-16 c = sym (ap row_at c.in-16.is)

pub returns-in-30 : goal.returns-in-30
unfolding standard_layouts
returns-in-30 c = sym (ap row_at c.in-30.is)

pub returns-in-37 : goal.returns-in-37
unfolding standard_layouts
returns-in-37 c = sym (ap row_at c.in-37.is)

pub returns-in-0-to-15 : goal.returns-in-0-to-15
unfolding searched standard_layouts
returns-in-0-to-15 c =
    let i = c.args.i in
    let none : i ≡ i - 0 = omega arith in
    c.searched_at.ensures ∙ ap searched_at none ∙ in-run 0 0 i (omega arith) 16 refl (omega arith)

pub returns-in-17-to-29 : goal.returns-in-17-to-29
unfolding searched standard_layouts
returns-in-17-to-29 c = c.searched_at-in-17-to-29.ensures ∙ in-run 16 1 c.args.i (omega arith) 13 refl (omega arith)

pub returns-in-31-to-36 : goal.returns-in-31-to-36
unfolding searched standard_layouts
returns-in-31-to-36 c = c.searched_at-in-31-to-36.ensures ∙ in-run 29 2 c.args.i (omega arith) 6 refl (omega arith)

pub returns-in_default : goal.returns-in_default
unfolding searched standard_layouts
returns-in_default c = c.searched_at-in_default.ensures ∙ in_rest 35 3 c.args.i (omega arith) refl
