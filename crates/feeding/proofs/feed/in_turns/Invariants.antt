use lib.ListN.{length}
use Rattle.feeding.proofs.InTurns.{Turned}
use Rattle.feeding.proofs.feed.in_turns.Given as goal

abbrev pub invariant-loop-rest : goal.invariant-loop-rest
invariant-loop-rest l = Turned l.initial.last l.block l.last l.rest

abbrev pub decreases-loop-rest : goal.decreases-loop-rest
decreases-loop-rest l = length l.rest
