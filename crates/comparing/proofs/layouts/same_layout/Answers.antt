use Rattle.std.proofs.Common.{sym, ◌∙◌}
use Rattle.comparing.proofs.layouts.same_layout.Goals as goal

pub returns-in-Some-Some : goal.returns-in-Some-Some
returns-in-Some-Some c =
    rw (sym c.find_chan.ensures ∙ c.in-Some-Some.is-0, sym c.find_chan-2.ensures ∙ c.in-Some-Some.is-1, ← c.part.ensures, ← c.part-in-Some-Some.ensures)
    c.eq.ensures
