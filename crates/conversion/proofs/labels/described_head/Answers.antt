use Rattle.std.proofs.Common.{List, ℕ, take, ap, ◌∙◌}
use Rattle.wave.specs.Making.{made_head}
use Rattle.conversion.specs.Said.{described}
use Rattle.conversion.proofs.Orders.{described-length, front-held, too_many}
use Rattle.conversion.proofs.labels.described_head.Goals as goal

pub returns-then-all-gt-LABELS : goal.returns-then-all-gt-LABELS
returns-then-all-gt-LABELS c =
    let a = c.args in
    c.wave_head.ensures ∙ too_many a.format a.body.now a.count a.payload c.if-all-gt-LABELS.true c.requires

pub returns : goal.returns
returns c =
    let a = c.args in
    c.wave_head-2.ensures ∙ ap (λ (ls : List ℕ). made_head a.format ls a.payload) (ap (take a.count) c.labels_at-labels.ensures ∙ front-held (described a.body.now a.count) 18 a.count (described-length a.body.now a.count))
