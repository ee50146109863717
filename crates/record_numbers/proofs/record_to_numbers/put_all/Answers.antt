use Rattle.record_numbers.proofs.Parts.{four-parts}
use Rattle.numbers.proofs.FormatLaws.{length-format}
use Rattle.numbers.specs.FormatNumbers.{format_numbers}
use Rattle.record_numbers.specs.RecordNumbers.{record_numbers}
use lib.ListN.{length}
use mathlib.Core.Path.{◌≡◌, refl}
use borrow.Author.Rules.{rules}
use Rattle.record_numbers.proofs.record_to_numbers.put_all.Goals as goal
use Rattle.record_numbers.proofs.record_to_numbers.put_all.Goals.{Start}

labels_length : (c : Start) → length c.args.w.labels ≡ 64
labels_length c = search rules

pub returns : goal.returns
unfolding record_numbers
returns c =
    let a = c.args in
    let k : length a.w.labels ≡ 64 = labels_length (goal.at.returns c).Start in
    four-parts a.out.now (format_numbers a.w.format) _ a.w.labels _ c.requires (length-format a.w.format) refl k refl
    (rw c.format_numbers.ensures at c.put.ensures)
    (rw (c.order_number.ensures, c.layout_kind.ensures, c.layout_tag.ensures) at c.put-2.ensures)
    c.put_words.ensures
    (rw (c.flag.ensures, c.flag-2.ensures, c.from.ensures, c.flag-3.ensures) at c.put-3.ensures)
