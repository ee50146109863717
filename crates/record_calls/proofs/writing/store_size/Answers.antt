use Rattle.std.proofs.Common.{◌≡◌, ◌+◌, ◌-◌, ◌∙◌}
use Rattle.byte_order.specs.Big.{big_bytes}
use Rattle.byte_order.proofs.Bytes.{be-bytes}
use Rattle.record_calls.proofs.Finished.{size_fits}
use Rattle.record_numbers.specs.RecordNumbers.{record_of}
use Rattle.writer.specs.Finish.{final_size}
use Rattle.byte_order.proofs.Budget.{whole-done}
use borrow.Author.Tests.{eq-eqb, ne_eqb}
use lib.ListN.{length}
use native.Mathlib.Omega.{arith}
use mathlib.Core.Bool.{false}
use mathlib.Core.Path.{◌≡◌, refl, sym, ◌∙◌}
use Rattle.record_calls.proofs.writing.store_size.Goals as goal

pub returns-then-number_at-eq1 : goal.returns-then-number_at-eq1
unfolding record_of
returns-then-number_at-eq1 c = rw (eq-eqb _ _ (sym c.number_at.ensures ∙ c.if-number_at-eq1.true))

pub overflow_sub-file_len : goal.overflow_sub-file_len
unfolding record_of
overflow_sub-file_len c =
    let a = c.args in
    let w = record_of a.held.now in
    let going : w.finished ≡ false = ne_eqb _ _ (λ e. c.if-number_at-eq1.false (c.number_at.ensures ∙ e)) in
    let f = size_fits w (length a.buf.now) c.requires.1 going in
    omega (arith, f.to, c.number_at-file_len.ensures, c.number_at-data_start.ensures)

pub overflow_add-file_len : goal.overflow_add-file_len
unfolding record_of
overflow_add-file_len c =
    let a = c.args in
    let w = record_of a.held.now in
    let going : w.finished ≡ false = ne_eqb _ _ (λ e. c.if-number_at-eq1.false (c.number_at.ensures ∙ e)) in
    let f = size_fits w (length a.buf.now) c.requires.1 going in
    record { fits = omega (arith, f.to, f.in-file, c.number_at-file_len.ensures, c.number_at-data_start.ensures) }

pub returns : goal.returns
unfolding record_of
returns c =
    let a = c.args in
    let w = record_of a.held.now in
    let going : w.finished ≡ false = ne_eqb _ _ (λ e. c.if-number_at-eq1.false (c.number_at.ensures ∙ e)) in
    let f = size_fits w (length a.buf.now) c.requires.1 going in
    let size = c.number_at-file_len.result - c.number_at-data_start.result + 4 in
    let size_bytes : c.to_be_bytes-size.result ≡ big_bytes 8 size = c.to_be_bytes-size.ensures ∙ be-bytes 8 size in
    rw going
    (c.store.ensures.1
    ∙ rw (size_bytes, c.number_at-file_len.ensures, c.number_at-data_start.ensures, c.number_at-2.ensures)
    (whole-done 8 w.size_position (final_size w) a.buf.now refl f.in_buffer))
