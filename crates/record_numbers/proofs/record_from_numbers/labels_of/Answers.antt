use Rattle.std.proofs.Common.{◌≡◌, ◌+◌, ◌<◌, ◌∙◌, get_or, arith, length-take, length-drop}
use Rattle.std.proofs.Math.Seq.{get_or-take, get_or-drop}
use Rattle.std.proofs.lemmas.Grind.{same_number_lists}
use Rattle.numbers.proofs.WordLaws.{part_at, low_word}
use Rattle.record_numbers.specs.RecordNumbers.{labels_in}
use Rattle.record_numbers.proofs.record_from_numbers.labels_of.Goals as goal

pub returns : goal.returns
returns c =
    let ns = c.args.numbers.now in
    let p = c.requires in
    same_number_lists _ (labels_in ns) (let l = p.0 in simp (length-take, length-drop) (omega arith))
    (λ k h. let within : k < 64 = omega arith in
    let there : get_or (labels_in ns) k 0 ≡ get_or ns (12 + k) 0 = rw (get_or-take, get_or-drop) in
    rw there (c.loop-i.invariant k (omega arith) ∙ low_word ns (12 + k) (part_at ns 12 64 (omega (arith, p.0)) p.1 k within)))
