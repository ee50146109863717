-- The text of a film, by which a line of the program `cuts` begins: the number of its layout, and for each session the number of its last
-- call and how many of its stores are done.
use Rattle.std.specs.Prelude.{ℕ, ◌≡◌, refl, List, ◌++◌, codes, decimal, flat_map, take}
use Rattle.cut_films.specs.Film.{layout_by, last_call_by}
use Rattle.cut_films.specs.declared.film.Film.{Film}
use Rattle.cut_films.specs.declared.film.LayoutBy.{LayoutBy}
use Rattle.cut_films.specs.declared.film.LayoutBy.TheVariants.{Nothing, Tag, Labels}
use Rattle.cut_films.specs.declared.film.LastCall.{LastCall}
use Rattle.cut_films.specs.declared.film.LastCall.TheVariants.{Begin, OneByte, Samples, FinishEmpty, FinishByte, FinishSamples, FinishRun, FinishAgain}
use Rattle.cut_films.specs.declared.film.Session.{Session}

abbrev pub layout_number : LayoutBy → ℕ
layout_number Nothing = 0
layout_number Tag = 1
layout_number Labels = 2

abbrev pub last_number : LastCall → ℕ
last_number Begin = 0
last_number OneByte = 1
last_number Samples = 2
last_number FinishEmpty = 3
last_number FinishByte = 4
last_number FinishSamples = 5
last_number FinishRun = 6
last_number FinishAgain = 7

-- a number in a line says what it stands for
pub layout-of-number : (layout : LayoutBy) → layout_by (layout_number layout) ≡ layout
layout-of-number Nothing = refl
layout-of-number Tag = refl
layout-of-number Labels = refl

pub last-of-number : (last : LastCall) → last_call_by (last_number last) ≡ last
last-of-number Begin = refl
last-of-number OneByte = refl
last-of-number Samples = refl
last-of-number FinishEmpty = refl
last-of-number FinishByte = refl
last-of-number FinishSamples = refl
last-of-number FinishRun = refl
last-of-number FinishAgain = refl

abbrev pub session_text : Session → List ℕ
session_text s = decimal (last_number s.last) ++ (codes "/" ++ decimal s.stores)

-- only the sessions that are made have a text
abbrev pub film_text : Film → List ℕ
film_text film = decimal (layout_number film.layout) ++ flat_map (λ s. codes " " ++ session_text s) (take film.count film.sessions)
