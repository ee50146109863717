use native.Mathlib.Omega.{arith}
use Rattle.feeding.proofs.WholeChunks.{walking-none, walking-within, next}
use Rattle.feeding.proofs.chunks.walk.Goals as goal

pub loop-n-init : goal.loop-n-init
loop-n-init c = walking-none c.args.s.now

pub whole_at-requires : goal.whole_at-requires
whole_at-requires c = walking-within _ _ c.loop-n.invariant

pub overflow_add-w : goal.overflow_add-w
overflow_add-w c = let x = next _ _ _ c.loop-n.invariant c.in-Some.ensures in omega (arith, x.within)

pub overflow_add-w-in-Some : goal.overflow_add-w-in-Some
overflow_add-w-in-Some c = let x = next _ _ _ c.loop-n.invariant c.in-Some.ensures in omega (arith, x.within, x.apart)

pub loop-n-smaller : goal.loop-n-smaller
loop-n-smaller c = let x = next _ _ _ c.loop-n.invariant c.in-Some.ensures in let e = c.in-Some.ensures in omega (arith, x.within, e.1)

pub loop-n-preserved : goal.loop-n-preserved
loop-n-preserved c = (next _ _ _ c.loop-n.invariant c.in-Some.ensures).on

pub returns : goal.returns
returns c = let i = c.loop-n.invariant in record { to = i.to; last = i.last; whole = i.whole; end = c.in_default.ensures }
