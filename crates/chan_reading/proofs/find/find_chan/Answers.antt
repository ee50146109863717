use Rattle.std.proofs.Common.{arith, sym, ◌∙◌, ◌-◌, length}
use borrow.Author.Tests.{lt-ltb, le-ltb}
use Rattle.chan_reading.proofs.FindOn.{find-on}
use Rattle.chan_reading.proofs.find.find_chan.Goals as goal

pub returns-then-s-lt-FILE_HEADER : goal.returns-then-s-lt-FILE_HEADER
returns-then-s-lt-FILE_HEADER c = let s = c.args.s.now in sym (find-on s 8 ∙ rw (lt-ltb (length s - 8) 12 (omega arith)))

pub returns-then-stands_at : goal.returns-then-stands_at
returns-then-stands_at c = sym (c.loop-p.invariant.1 ∙ find-on c.args.s.now c.loop-p.p ∙ rw (le-ltb _ _ c.loop-p-test.true, sym c.stands_at.ensures ∙ c.if-stands_at.true))

pub returns-then-s-start : goal.returns-then-s-start
returns-then-s-start c = sym (c.loop-p.invariant.1 ∙ find-on c.args.s.now c.loop-p.p ∙ rw (le-ltb _ _ c.loop-p-test.true, sym c.stands_at.ensures ∙ c.if-stands_at.false, ← c.be_u64-size.ensures, lt-ltb _ _ c.if-s-start.true))

pub returns-then-stands_at-2 : goal.returns-then-stands_at-2
returns-then-stands_at-2 c = sym (c.loop-p.invariant.1 ∙ find-on c.args.s.now c.loop-p.p ∙ rw (le-ltb _ _ c.loop-p-test.true, sym c.stands_at.ensures ∙ c.if-stands_at.false, ← c.be_u64-size.ensures, le-ltb _ _ c.if-s-start.false, sym c.stands_at-in-loop-p.ensures ∙ c.if-stands_at-2.true))

pub loop-p-preserved : goal.loop-p-preserved
loop-p-preserved c = (omega arith, c.loop-p.invariant.1 ∙ find-on c.args.s.now c.loop-p.p ∙ rw (le-ltb _ _ c.loop-p-test.true, sym c.stands_at.ensures ∙ c.if-stands_at.false, ← c.be_u64-size.ensures, le-ltb _ _ c.if-s-start.false, sym c.stands_at-in-loop-p.ensures ∙ c.if-stands_at-2.false))

pub returns : goal.returns
returns c = sym (c.loop-p.invariant.1 ∙ find-on c.args.s.now c.loop-p.p ∙ rw (lt-ltb _ _ c.loop-p-test.false))
