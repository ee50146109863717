use Rattle.comparing.proofs.payloads.rest_differs.Goals as goal

pub returns : goal.returns
returns c = rw (← c.beyond.ensures, ← c.beyond-2.ensures) c.ne.ensures
