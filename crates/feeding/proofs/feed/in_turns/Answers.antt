use mathlib.Core.Path.{◌≡◌, refl}
use native.Mathlib.Omega.{arith}
use lib.ListN.{length, length-take, length-drop}
use borrow.Author.Rules.{rules}
use Rattle.feeding.proofs.InTurns.{past-asks, past-on, asks, one-turn, less-left}
use Rattle.feeder.proofs.Facts.{sound-facts}
use Rattle.feeding.proofs.feed.in_turns.Goals as goal

pub loop-rest-init : goal.loop-rest-init
loop-rest-init c = let a = c.args in let l : length a.r.held ≡ 32 = search rules in record { sound = sound-facts a.r c.requires.0; room = l; limit = c.requires.1; same = refl }

pub past_chunks-past-requires : goal.past_chunks-past-requires
past_chunks-past-requires c = past-asks _ _ _ _ c.loop-rest.invariant

pub takes-requires : goal.takes-requires
takes-requires c = let p = past-on _ _ _ _ c.loop-rest.invariant _ (search rules) c.past_chunks-past.ensures in omega (arith, p.turned.sound.few)

pub took-last-requires : goal.took-last-requires
took-last-requires c = let p = past-on _ _ _ _ c.loop-rest.invariant _ (search rules) c.past_chunks-past.ensures in asks p c.takes.ensures c.split_at.ensures.front

pub loop-rest-smaller : goal.loop-rest-smaller
loop-rest-smaller c = let p = past-on _ _ _ _ c.loop-rest.invariant _ (search rules) c.past_chunks-past.ensures in let l = less-left p c.takes.ensures c.split_at.ensures.back in omega (arith, simp (length-take, length-drop) at l)

pub loop-rest-preserved : goal.loop-rest-preserved
loop-rest-preserved c = let p = past-on _ _ _ _ c.loop-rest.invariant _ (search rules) c.past_chunks-past.ensures in one-turn p c.takes.ensures c.split_at.ensures.front c.split_at.ensures.back c.took-last.ensures
