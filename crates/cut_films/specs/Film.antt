-- The films of the program `cuts`: a layout, and the sessions in their order.
use Rattle.std.specs.Prelude.{ℕ, ◌+◌, cond, [], ◌∷◌, ltb, get_or, replicate, set}
use Rattle.cut_films.specs.declared.film.Film.{Film}
use Rattle.cut_films.specs.declared.film.LayoutBy.{LayoutBy}
use Rattle.cut_films.specs.declared.film.LayoutBy.TheVariants.{Nothing, Tag, Labels}
use Rattle.cut_films.specs.declared.film.LastCall.{LastCall}
use Rattle.cut_films.specs.declared.film.LastCall.TheVariants.{Begin, OneByte, Samples, FinishEmpty, FinishByte, FinishSamples, FinishRun, FinishAgain}
use Rattle.cut_films.specs.declared.film.Session.{Session}

-- what a number says of the layout: 0 none, 1 a tag, any other labels
abbrev pub layout_by : ℕ → LayoutBy
layout_by n = get_or (Nothing ∷ Tag ∷ []) n Labels

-- and of the last call: those from 0 to 7 in their order, any other a finish with no data before it
abbrev pub last_call_by : ℕ → LastCall
last_call_by n = get_or (Begin ∷ OneByte ∷ Samples ∷ FinishEmpty ∷ FinishByte ∷ FinishSamples ∷ FinishRun ∷ FinishAgain ∷ []) n FinishEmpty

-- how many sessions a film has at most
abbrev pub most_sessions : ℕ
most_sessions = 3

-- a session: its last call, and how many of its stores are done
abbrev pub session_of : LastCall → ℕ → Session
session_of last n = record { last = last; stores = n }

-- a film of this layout, with no session yet
abbrev pub started_film : LayoutBy → Film
started_film layout = record { layout = layout; count = 0; sessions = replicate most_sessions (session_of Begin 0) }

-- a film with one session more, in the first place that is free: its last call, and how many of its stores are done. A film that has no
-- free place stays as it is
abbrev pub followed_by : Film → LastCall → ℕ → Film
followed_by film last n =
    cond (ltb film.count most_sessions)
    (record {
      layout = film.layout;
      count = film.count + 1;
      sessions = set film.sessions film.count (session_of last n);
    })
    film
