use Rattle.std.proofs.Common.{take, refl}
use borrow.Author.Tests.{ne_eqb}
use Rattle.writer.specs.Resume.{resumed}
use Rattle.writer.proofs.Tests.{refusal-not_done}
use Rattle.writer.proofs.Reopening.{found_within}
use Rattle.writer.proofs.resume.look.Goals as goal

pub returns-then-is_too_long : goal.returns-then-is_too_long
unfolding resumed
returns-then-is_too_long c = rw (← c.is_too_long.ensures, c.if-is_too_long.true, c.new.ensures) refl

pub returns-in_default : goal.returns-in_default
unfolding resumed
returns-in_default c = rw (← c.is_too_long.ensures, c.if-is_too_long.false, ← c.parse_caf_file-answer.ensures, c.unwrap_err.ensures) refl

pub check_tail-requires : goal.check_tail-requires
check_tail-requires c = found_within (take c.args.file_len c.args.buf.now) c.in-Ok.ensures

pub returns-in-Err : goal.returns-in-Err
unfolding resumed
returns-in-Err c = rw (← c.is_too_long.ensures, c.if-is_too_long.false, ← c.in-Ok.ensures, ← c.in-Err.ensures, ne_eqb _ _ (refusal-not_done c.in-Err.refusal), c.new-in-Err.ensures) refl

pub returns : goal.returns
unfolding resumed
returns c = rw (← c.is_too_long.ensures, c.if-is_too_long.false, ← c.in-Ok.ensures, ← c.in_default-check_tail.ensures, c.reopen.ensures) refl
