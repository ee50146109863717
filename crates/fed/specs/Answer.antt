-- 02, T-01: what the end says of all bytes joined.
use Rattle.std.specs.Prelude.{ℕ, cond, List, length, take, leb}
use Rattle.answers.specs.Numbers.{too_long, file_max}
use Rattle.reading.specs.Strict.{strict}
use Rattle.reading.specs.Shapes.{StrictAnswer, Accepted, Rejected}
use Rattle.feeder.specs.Record.{is_by_bytes}

-- 02, T-01, TooLong: the strict answer for the bytes up to the limit, where more follow. A refusal that those bytes gave stays; what
-- only an end there would tell makes way for TooLong
abbrev pub cut_off : StrictAnswer → StrictAnswer
cut_off (Accepted v k) = Rejected too_long k
cut_off (Rejected number k) = Rejected (cond (is_by_bytes number) number too_long) k

-- the answer for all bytes joined
unfoldable pub fed_answer : List ℕ → StrictAnswer
fed_answer s = cond (leb (length s) file_max) (strict s) (cut_off (strict (take file_max s)))
