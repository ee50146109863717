use Rattle.std.proofs.Common.{arith, sym, ◌∙◌}
use Rattle.reading.proofs.Passing.{at_rest, at-desc, at-data, at_other, other-ahead}
use Rattle.reading.proofs.others.pass.Goals as goal

pub returns-then-s-p-lt-CHUNK_HEADER : goal.returns-then-s-p-lt-CHUNK_HEADER
returns-then-s-p-lt-CHUNK_HEADER c =
    let l = c.loop-p in
    record { walked = λ rules f x. l.invariant.walked rules f x ∙ at_rest c.args.s.now l.p l.chunks rules f c.if-s-p-lt-CHUNK_HEADER.true; within = tt }

pub returns-then-stands_at : goal.returns-then-stands_at
returns-then-stands_at c =
    let l = c.loop-p in
    let d = sym c.stands_at.ensures ∙ c.if-stands_at.true in
    rw c.new.ensures (record { walked = λ rules f x. l.invariant.walked rules f x ∙ at-desc c.args.s.now l.p l.chunks c.if-s-p-lt-CHUNK_HEADER.false rules f x d; within = tt })

pub returns-then-stands_at-2 : goal.returns-then-stands_at-2
returns-then-stands_at-2 c =
    let l = c.loop-p in
    let d = sym c.stands_at.ensures ∙ c.if-stands_at.false in
    let e = sym c.stands_at-in-loop-p.ensures ∙ c.if-stands_at-2.true in
    record { walked = λ rules f x. l.invariant.walked rules f x ∙ at-data c.args.s.now l.p l.chunks c.if-s-p-lt-CHUNK_HEADER.false rules f d e; within = (omega arith, l.invariant.counted) }

pub loop-p-smaller : goal.loop-p-smaller
loop-p-smaller c =
    let l = c.loop-p in
    let d = sym c.stands_at.ensures ∙ c.if-stands_at.false in
    let e = sym c.stands_at-in-loop-p.ensures ∙ c.if-stands_at-2.false in
    omega (arith, other-ahead c.args.s.now l.p l.chunks c.if-s-p-lt-CHUNK_HEADER.false d e c.in-Ok.ensures)

pub loop-p-preserved : goal.loop-p-preserved
loop-p-preserved c =
    let s = c.args.s.now in
    let l = c.loop-p in
    let d = sym c.stands_at.ensures ∙ c.if-stands_at.false in
    let e = sym c.stands_at-in-loop-p.ensures ∙ c.if-stands_at-2.false in
    let h = other-ahead s l.p l.chunks c.if-s-p-lt-CHUNK_HEADER.false d e c.in-Ok.ensures in
    record {
      counted = omega arith;
      within = omega arith;
      walked = λ rules f x. l.invariant.walked rules f x ∙ at_other s l.p l.chunks c.if-s-p-lt-CHUNK_HEADER.false d e rules f x c.in-Ok.ensures;
    }

pub returns-in-Err : goal.returns-in-Err
returns-in-Err c =
    let l = c.loop-p in
    let d = sym c.stands_at.ensures ∙ c.if-stands_at.false in
    let e = sym c.stands_at-in-loop-p.ensures ∙ c.if-stands_at-2.false in
    rw c.new-in-Err.ensures (record { walked = λ rules f x. l.invariant.walked rules f x ∙ at_other c.args.s.now l.p l.chunks c.if-s-p-lt-CHUNK_HEADER.false d e rules f x c.in-Err.ensures; within = tt })
