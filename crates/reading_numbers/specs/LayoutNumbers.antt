-- The layout for labels as numbers: how it is told, and its tag, which is 0 where there is none.
use Rattle.std.specs.Prelude.{ℕ, List, [], ◌∷◌}
use Rattle.layout.specs.declared.ChannelLayout.{ChannelLayout}
use Rattle.record_numbers.specs.RecordNumbers.{layout_kind, layout_tag}

abbrev pub layout_places : ℕ
layout_places = 2

abbrev pub layout_numbers : ChannelLayout → List ℕ
layout_numbers l = layout_kind l ∷ layout_tag l ∷ []
