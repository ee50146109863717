use Rattle.std.proofs.Common.{◌∙◌}
use Rattle.record_calls.proofs.Changed.{data-seen}
use Rattle.record_numbers.proofs.Records.{other_length}
use Rattle.record_calls.proofs.writing.check_data_on.Goals as goal

pub returns-then-held-ne-RECORD : goal.returns-then-held-ne-RECORD
returns-then-held-ne-RECORD c = rw (other_length c.args.held.now c.if-held-ne-RECORD.true)

pub returns : goal.returns
returns c = c.check_data.ensures ∙ rw (c.standing_in.ensures, c.number_at-file_len.ensures) (data-seen c.args.held.now c.args.room c.args.n)
