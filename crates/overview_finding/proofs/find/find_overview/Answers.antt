use Rattle.std.proofs.Common.{◌≡◌, ◌∙◌, ◌&&◌, arith, false, sym}
use Rattle.std.proofs.lemmas.Grind.{common_steps}
use borrow.Author.Tests.{le-ltb}
use Rattle.overview.specs.Body.{'ovvw'}
use Rattle.reading.specs.Step.{stands_at}
use Rattle.overview_finding.proofs.FindOn.{find-on}
use Rattle.overview_finding.proofs.find.find_overview.Goals as goal

pub returns-then-s-lt-FILE_HEADER : goal.returns-then-s-lt-FILE_HEADER
returns-then-s-lt-FILE_HEADER c = let law = find-on c.args.s.now false 8 in grind (arith, common_steps)

pub returns-then-s-start : goal.returns-then-s-start
returns-then-s-start c = let law = find-on c.args.s.now c.loop-p.after c.loop-p.p in grind (arith, common_steps)

pub returns-then-stands_at : goal.returns-then-stands_at
returns-then-stands_at c =
    sym (c.loop-p.invariant.1 ∙ find-on c.args.s.now c.loop-p.after c.loop-p.p
    ∙ rw (le-ltb _ _ c.loop-p-test.true, ← c.be_u64-size.ensures, le-ltb _ _ c.if-s-start.false, c.if-after.true, sym c.stands_at.ensures ∙ c.if-stands_at.true))

pub loop-p-preserved : goal.loop-p-preserved
loop-p-preserved c =
    let s = c.args.s.now in
    let none : c.loop-p.after && stands_at s c.loop-p.p 'ovvw' ≡ false = grind (arith, common_steps) in (
      omega arith,
      c.loop-p.invariant.1 ∙ find-on s c.loop-p.after c.loop-p.p
          ∙ rw (le-ltb _ _ c.loop-p-test.true, ← c.be_u64-size.ensures, le-ltb _ _ c.if-s-start.false, none, ← c.stands_at-after.ensures),
    )

pub returns : goal.returns
returns c = let law = find-on c.args.s.now c.loop-p.after c.loop-p.p in grind (arith, common_steps)
