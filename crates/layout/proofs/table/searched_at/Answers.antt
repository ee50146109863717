use mathlib.Core.Path.{sym, ap}
use Rattle.layout.specs.Table.{standard_layouts}
use Rattle.layout.specs.Searched.{searched, searched_at}
use Rattle.layout.proofs.Rows.{all-refused}
use Rattle.layout.proofs.Places.{searched-after}
use Rattle.layout.proofs.table.searched_at.Goals as goal

pub returns-in-0 : goal.returns-in-0
unfolding searched standard_layouts
returns-in-0 c = sym (ap searched_at c.in-0.is)

pub returns-in-1 : goal.returns-in-1
unfolding searched standard_layouts
returns-in-1 c = sym (ap searched_at c.in-1.is)

pub returns-in-2 : goal.returns-in-2
unfolding searched standard_layouts
returns-in-2 c = sym (ap searched_at c.in-2.is)

pub returns-in-3 : goal.returns-in-3
unfolding searched standard_layouts
returns-in-3 c = sym (ap searched_at c.in-3.is)

pub returns-in-4 : goal.returns-in-4
unfolding searched standard_layouts
returns-in-4 c = sym (ap searched_at c.in-4.is)

pub returns-in-5 : goal.returns-in-5
unfolding searched standard_layouts
returns-in-5 c = sym (ap searched_at c.in-5.is)

pub returns-in-6 : goal.returns-in-6
unfolding searched standard_layouts
returns-in-6 c = sym (ap searched_at c.in-6.is)

pub returns-in-7 : goal.returns-in-7
unfolding searched standard_layouts
returns-in-7 c = sym (ap searched_at c.in-7.is)

pub returns-in-8 : goal.returns-in-8
unfolding searched standard_layouts
returns-in-8 c = sym (ap searched_at c.in-8.is)

pub returns-in-9 : goal.returns-in-9
unfolding searched standard_layouts
returns-in-9 c = sym (ap searched_at c.in-9.is)

pub returns-in-10 : goal.returns-in-10
unfolding searched standard_layouts
returns-in-10 c = sym (ap searched_at c.in-10.is)

pub returns-in-11 : goal.returns-in-11
unfolding searched standard_layouts
returns-in-11 c = sym (ap searched_at c.in-11.is)

pub returns-in-12 : goal.returns-in-12
unfolding searched standard_layouts
returns-in-12 c = sym (ap searched_at c.in-12.is)

pub returns-in-13 : goal.returns-in-13
unfolding searched standard_layouts
returns-in-13 c = sym (ap searched_at c.in-13.is)

pub returns-in-14 : goal.returns-in-14
unfolding searched standard_layouts
returns-in-14 c = sym (ap searched_at c.in-14.is)

pub returns-in-15 : goal.returns-in-15
unfolding searched standard_layouts
returns-in-15 c = sym (ap searched_at c.in-15.is)

pub returns-in-16 : goal.returns-in-16
unfolding searched standard_layouts
returns-in-16 c = sym (ap searched_at c.in-16.is)

pub returns-in-17 : goal.returns-in-17
unfolding searched standard_layouts
returns-in-17 c = sym (ap searched_at c.in-17.is)

pub returns-in-18 : goal.returns-in-18
unfolding searched standard_layouts
returns-in-18 c = sym (ap searched_at c.in-18.is)

pub returns-in-19 : goal.returns-in-19
unfolding searched standard_layouts
returns-in-19 c = sym (ap searched_at c.in-19.is)

pub returns-in-20 : goal.returns-in-20
unfolding searched standard_layouts
returns-in-20 c = sym (ap searched_at c.in-20.is)

pub returns-in-21 : goal.returns-in-21
unfolding searched standard_layouts
returns-in-21 c = sym (ap searched_at c.in-21.is)

pub returns-in-22 : goal.returns-in-22
unfolding searched standard_layouts
returns-in-22 c = sym (ap searched_at c.in-22.is)

pub returns-in-23 : goal.returns-in-23
unfolding searched standard_layouts
returns-in-23 c = sym (ap searched_at c.in-23.is)

pub returns-in-24 : goal.returns-in-24
unfolding searched standard_layouts
returns-in-24 c = sym (ap searched_at c.in-24.is)

pub returns-in-25 : goal.returns-in-25
unfolding searched standard_layouts
returns-in-25 c = sym (ap searched_at c.in-25.is)

pub returns-in-26 : goal.returns-in-26
unfolding searched standard_layouts
returns-in-26 c = sym (ap searched_at c.in-26.is)

pub returns-in-27 : goal.returns-in-27
unfolding searched standard_layouts
returns-in-27 c = sym (ap searched_at c.in-27.is)

pub returns-in-28 : goal.returns-in-28
unfolding searched standard_layouts
returns-in-28 c = sym (ap searched_at c.in-28.is)

pub returns-in-29 : goal.returns-in-29
unfolding searched standard_layouts
returns-in-29 c = sym (ap searched_at c.in-29.is)

pub returns-in-30 : goal.returns-in-30
unfolding searched standard_layouts
returns-in-30 c = sym (ap searched_at c.in-30.is)

pub returns-in-31 : goal.returns-in-31
unfolding searched standard_layouts
returns-in-31 c = sym (ap searched_at c.in-31.is)

pub returns-in-32 : goal.returns-in-32
unfolding searched standard_layouts
returns-in-32 c = sym (ap searched_at c.in-32.is)

pub returns-in-33 : goal.returns-in-33
unfolding searched standard_layouts
returns-in-33 c = sym (ap searched_at c.in-33.is)

pub returns-in-34 : goal.returns-in-34
unfolding searched standard_layouts
returns-in-34 c = sym (ap searched_at c.in-34.is)

pub returns-in-35 : goal.returns-in-35
unfolding searched standard_layouts
returns-in-35 c = sym (ap searched_at c.in-35.is)

pub returns-in-36 : goal.returns-in-36
unfolding searched standard_layouts
returns-in-36 c = sym (ap searched_at c.in-36.is)

pub returns-in-37 : goal.returns-in-37
unfolding searched standard_layouts
returns-in-37 c = sym (ap searched_at c.in-37.is)

pub returns-in-38 : goal.returns-in-38
unfolding searched standard_layouts
returns-in-38 c = sym (ap searched_at c.in-38.is)

pub returns-in-39 : goal.returns-in-39
unfolding searched standard_layouts
returns-in-39 c = sym (ap searched_at c.in-39.is)

pub returns-in_default : goal.returns-in_default
returns-in_default c = searched-after c.args.i (all-refused c.args.i 40 c.in_default.in_default-own.rest)
