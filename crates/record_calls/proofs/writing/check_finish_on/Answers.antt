use Rattle.std.proofs.Common.{◌∙◌}
use Rattle.record_calls.proofs.Changed.{finish-seen}
use Rattle.record_numbers.proofs.Records.{other_length}
use Rattle.record_calls.proofs.writing.check_finish_on.Goals as goal

pub returns-then-held-ne-RECORD : goal.returns-then-held-ne-RECORD
returns-then-held-ne-RECORD c = rw (other_length c.args.held.now c.if-held-ne-RECORD.true)

pub returns : goal.returns
returns c = c.check_finish.ensures ∙ rw (c.standing_in.ensures) (finish-seen c.args.held.now c.args.room)
