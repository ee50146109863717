use Rattle.record_calls.proofs.Changed.{labels-long}
use Rattle.record_calls.proofs.Places.{with-head}
use Rattle.record_numbers.specs.RecordNumbers.{record_of}
use Rattle.record_numbers.proofs.Tidied.{tidied-is}
use mathlib.Core.Path.{◌∙◌}
use Rattle.record_calls.proofs.writing.head.Goals as goal

pub returns : goal.returns
unfolding record_of
returns c =
    let a = c.args in
    let p = c.requires in
    let tidy = c.tidy.ensures ∙ tidied-is a.held.now p.0 (c.slice_known-1.given 1).fits p.1 in
    c.put.ensures ∙ rw tidy (with-head (record_of a.held.now) (labels-long a.held.now p.0) a.n)
