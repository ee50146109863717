use Rattle.std.proofs.Common.{◌≡◌, arith, length, sym, zero-add}
use lib.Seq.{length-take-le}
use Rattle.answers.specs.Numbers.{done}
use Rattle.overview.specs.Reader.{read_number, read_into, numbers_in}
use Rattle.overview.proofs.ReadLaws.{whole, length-shown}
use Rattle.overview.proofs.reader.read_overview.Goals as goal

pub slice_bounds-show-end-2 : goal.slice_bounds-show-end-2
slice_bounds-show-end-2 c =
    let w = whole _ _ _ (sym (rw c.in_ok-check_read.was at c.check_read.ensures)) in
    sym (length-take-le (numbers_in (length c.args.body.now)) c.args.out.now w.2)

pub show-requires : goal.show-requires
show-requires c =
    let w = whole _ _ _ (sym (rw c.in_ok-check_read.was at c.check_read.ensures)) in
    let l = length-take-le (numbers_in (length c.args.body.now)) c.args.out.now w.2 in
    omega (arith, w.0)

pub returns-clause-stored : goal.returns-clause-stored
unfolding read_into
returns-clause-stored c =
    let a = c.args in
    let s = a.body.now in
    let accepted : read_number (length s) a.channels (length a.out.now) ≡ done = sym (rw c.in_ok-check_read.was at c.check_read.ensures) in
    let l = length-take-le (numbers_in (length s)) a.out.now (whole _ _ _ accepted).2 in
    rw (accepted, c.show.ensures, l, zero-add, length-shown)
