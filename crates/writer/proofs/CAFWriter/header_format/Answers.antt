use Rattle.std.proofs.Common.{◌≡◌, Some, refl, sym, ◌∙◌, ap, arith}
use Rattle.refusals.specs.Numbers.{is_absent}
use Rattle.writer.specs.Header.{header_bytes_of, header_number}
use Rattle.writer.proofs.Facts.{sound-alone, is-alone}
use Rattle.writer.proofs.Heads.{header-start}
use Rattle.writer.proofs.CAFWriter.header_format.Goals as goal

pub header_len-requires : goal.header_len-requires
header_len-requires c =
    let a = c.args in
    is-alone a.self (sound-alone a.self a.room (sym c.is_sound.ensures ∙ c.if-not-is_sound.false))

pub returns-then-is_too_long-clause-number : goal.returns-then-is_too_long-clause-number
unfolding header_number header_bytes_of
returns-then-is_too_long-clause-number c =
    let w = c.args.self in
    let there : w.format ≡ Some c.in_ok-format.format = grind arith in
    let present = ap is_absent there in
    rw (← c.is_sound.ensures, c.if-not-is_sound.false, c.if-self.false, c.if-self-2.false, present, header-start w present, ← c.header_len.ensures, ← c.is_too_long.ensures, c.if-is_too_long.true) refl

pub returns-clause-number : goal.returns-clause-number
unfolding header_number header_bytes_of
returns-clause-number c =
    let w = c.args.self in
    let there : w.format ≡ Some c.in_ok-format.format = grind arith in
    let present = ap is_absent there in
    rw (← c.is_sound.ensures, c.if-not-is_sound.false, c.if-self.false, c.if-self-2.false, present, header-start w present, ← c.header_len.ensures, ← c.is_too_long.ensures, c.if-is_too_long.false) refl
