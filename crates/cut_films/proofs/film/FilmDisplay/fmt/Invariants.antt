use Rattle.std.proofs.Common.{◌≡◌, List, ℕ, ◌++◌, take, codes, flat_map}
use Rattle.std.specs.Fmt.{HasWritten, IsPlainFormatter}
use Rattle.cut_films.specs.Text.{session_text, film_text}
use Rattle.cut_films.proofs.film.FilmDisplay.fmt.Given as goal

abbrev pub invariant-loop-session : goal.invariant-loop-session
invariant-loop-session g l =
    IsPlainFormatter l.fn.f
    → (done : List ℕ) × HasWritten g.W.Write.write_str_gives l.fn.f done l.f
    × (done ++ flat_map (λ s. codes " " ++ session_text s) (take l.session-iterator.n l.session-iterator.iter.rest.now) ≡ film_text l.fn.self)
