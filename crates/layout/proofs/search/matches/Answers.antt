use mathlib.Core.Path.{ap, sym, ◌∙◌}
use borrow.Author.Tests.{ne_eqb}
use Rattle.byte_order.specs.Same.{exactly}
use Rattle.layout.specs.Table.{row_order}
use Rattle.layout.specs.declared.Row.{Row}
use Rattle.layout.proofs.Searched.{searched-fits, other-count}
use Rattle.layout.proofs.search.matches.Goals as goal

pub returns-else-searched_count-labels : goal.returns-else-searched_count-labels
returns-else-searched_count-labels c =
    let a = c.args in
    rw (ne_eqb _ _ c.if-searched_count-labels.false) (sym (other-count a.i a.labels.now (λ e. c.if-searched_count-labels.false (c.searched_count.ensures ∙ e))))

pub has_labels-requires : goal.has_labels-requires
has_labels-requires c =
    let r = c.searched_at.ensures in (
      rw r (searched-fits c.args.i c.requires),
      ap (λ (r : Row). r.count) r ∙ sym c.searched_count.ensures ∙ c.if-searched_count-labels.true,
    )

pub returns-then-searched_count-labels : goal.returns-then-searched_count-labels
returns-then-searched_count-labels c =
    let a = c.args in
    c.has_labels.ensures ∙ ap (λ (r : Row). exactly (row_order r) a.labels.now) c.searched_at.ensures
