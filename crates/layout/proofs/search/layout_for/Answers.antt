use mathlib.Core.Path.{ap, sym, ◌∙◌}
use Rattle.layout.specs.Searched.{searched, searched_at}
use Rattle.layout.specs.declared.Row.{Row}
use Rattle.layout.specs.declared.ChannelLayout.TheVariants.{Tagged}
use Rattle.layout.proofs.Searched.{«40-rows», searched-enough, found, not_found}
use Rattle.layout.proofs.search.layout_for.Goals as goal

pub returns-then-i-lt-SEARCHED : goal.returns-then-i-lt-SEARCHED
returns-then-i-lt-SEARCHED c =
    let ls = c.args.labels.now in
    let n = c.rows_before-i.ensures in
    let answer = searched-enough ls ∙ found searched ls (rw («40-rows», ← n) c.if-i-lt-SEARCHED.true) in
    ap (λ (r : Row). Tagged r.tag) (c.searched_at.ensures ∙ ap searched_at n) ∙ sym answer

pub returns-else-i-lt-SEARCHED : goal.returns-else-i-lt-SEARCHED
returns-else-i-lt-SEARCHED c =
    let ls = c.args.labels.now in
    let n = c.rows_before-i.ensures in
    sym (searched-enough ls ∙ not_found searched ls (rw («40-rows», ← n) c.if-i-lt-SEARCHED.false))
