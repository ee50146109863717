use Rattle.std.proofs.Common.{◌++◌, codes, rules, ◌∙◌, append_assoc}
use Rattle.std.proofs.Math.Numerals.{add-one}
use Rattle.std.proofs.Output.{has_written_append}
use Rattle.cut_films.specs.Text.{session_text}
use Rattle.cut_films.proofs.film.FilmDisplay.fmt.Goals as goal

pub loop-session-preserved : goal.loop-session-preserved
loop-session-preserved g c = λ plain.
    let now = c.loop-session.invariant plain in
    let steps = c.in-Some.ensures.steps in (
      now.0 ++ (codes " " ++ session_text c.in-Some.session.now),
      has_written_append _ _ _ _ _ _ now.1 (search rules),
      append_assoc now.0 _ _ ∙ (rw (steps.0, ← steps.1, add-one) at now.2),
    )
