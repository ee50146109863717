use Rattle.record_calls.proofs.Changed.{labels-long}
use Rattle.record_calls.proofs.Places.{grown}
use Rattle.record_numbers.specs.RecordNumbers.{record_of}
use Rattle.record_numbers.proofs.Tidied.{tidied-is}
use mathlib.Core.Path.{◌∙◌}
use Rattle.record_calls.proofs.writing.grow.Goals as goal

pub returns : goal.returns
unfolding record_of
returns c =
    let ns = c.args.held.now in
    let p = c.requires in
    let wide = (c.slice_known-1.given 1).fits in
    let tidy = c.tidy.ensures ∙ tidied-is ns p.0 wide p.1 in
    c.put.ensures ∙ rw (tidy, c.number_at.ensures, c.number_at-2.ensures) (grown (record_of ns) (labels-long ns p.0) _)
