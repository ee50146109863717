use Rattle.std.proofs.Common.{arith, ap, ◌∙◌}
use Rattle.std.proofs.Math.Seq.{take_all}
use Rattle.record_numbers.specs.RecordNumbers.{is_record}
use Rattle.record_numbers.proofs.record_from_numbers.is_record.Goals as goal

pub slice_bounds-places_fit-end : goal.slice_bounds-places_fit-end
slice_bounds-places_fit-end c = rw (take_all 84 c.args.numbers.now (omega arith)) (omega arith)

pub places_fit-requires : goal.places_fit-requires
places_fit-requires c = rw (take_all 84 c.args.numbers.now (omega arith)) (omega arith)

pub returns-then-numbers-eq-RECORD : goal.returns-then-numbers-eq-RECORD
returns-then-numbers-eq-RECORD c = c.places_fit.ensures ∙ ap is_record (take_all 84 c.args.numbers.now (omega arith))
