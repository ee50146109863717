use Rattle.reading_numbers.proofs.StrictBack.{all-bytes, told-back, not-done}
use Rattle.reading_numbers.proofs.answer_from_numbers.strict_by_numbers.Goals as goal

pub returns-in-Ok : goal.returns-in-Ok
returns-in-Ok c =
    let s = c.args.file.now in
    let told = c.put_strict-outcome.ensures in
    let back = told-back s (all-bytes s (λ i. (c.type_inv.file i).fits)) told.value told.out_after in
    rw (c.values_in.ensures, c.number_at-chunks.ensures) (rw c.in-Ok.is at back)

pub returns-in-Err : goal.returns-in-Err
returns-in-Err c =
    let s = c.args.file.now in
    let told = c.put_strict-outcome.ensures in
    let back = told-back s (all-bytes s (λ i. (c.type_inv.file i).fits)) told.value told.out_after in
    rw (c.new.ensures, c.number_at-chunks.ensures) (rw (c.in-Err.is, not-done c.in-Err.refusal) at back)
