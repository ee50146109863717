use mathlib.Core.Path.{refl, sym, ◌∙◌}
use native.Mathlib.Numerals.{add-one}
use native.Mathlib.Omega.{arith}
use lib.ListN.{drop_of_length-le}
use lib.Seq.{drop-cons}
use borrow.Author.Rules.{rules}
use Rattle.layout.proofs.known.all_known.Goals as goal

pub loop-label-init : goal.loop-label-init
loop-label-init c = (search rules, refl)

pub returns-then-not-known_label : goal.returns-then-not-known_label
returns-then-not-known_label c = sym (c.loop-label.invariant.1 ∙ rw (drop-cons c.args.labels.now c.loop-label.label-index 0 (omega arith), sym c.known_label.ensures ∙ c.if-not-known_label.true))

pub loop-label-preserved : goal.loop-label-preserved
loop-label-preserved c = (omega arith, rw add-one (c.loop-label.invariant.1 ∙ rw (drop-cons c.args.labels.now c.loop-label.label-index 0 (omega arith), sym c.known_label.ensures ∙ c.if-not-known_label.false)))

pub returns : goal.returns
returns c = sym (c.loop-label.invariant.1 ∙ rw (drop_of_length-le c.args.labels.now {i = c.loop-label.label-index} (omega arith)))
