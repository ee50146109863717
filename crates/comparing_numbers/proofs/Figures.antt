-- The figures of small films hold: computed.
use mathlib.Core.Path.{refl}
use lib.Ieee.{of_bits, to_bits, is_nan, of_fields, odd, span, climb, size}
use Rattle.format.specs.Desc.{format_at}
use Rattle.format.specs.Wide.{is_wide}
use Rattle.reading.specs.Step.{desc_at, skip_at}
use Rattle.reading.specs.Rules.{strict_data, step_by}
use Rattle.reading.specs.Walk.{steps, walk}
use Rattle.reading.specs.Strict.{strict}
use Rattle.chan_reading.specs.Find.{find_within, find_from}
use Rattle.chan_reading.specs.Read.{chan_number, answer_for}
use Rattle.difference.specs.Difference.{difference}
use Rattle.difference.specs.Compared.{compared}
use Rattle.comparing_numbers.specs.Figures.{CompareFigures}

pub compare-figures : CompareFigures
unfolding of_bits to_bits is_nan of_fields odd span climb size format_at is_wide desc_at skip_at strict_data step_by steps walk strict find_within find_from chan_number answer_for difference compared
compare-figures =
    record {
      all = refl;
      counts = refl;
      back = refl;
      counts-back = refl;
      itself = refl;
      counts-of-itself = refl;
      turned_round = refl;
      rest = refl;
      first-cut = refl;
      first-layout = refl;
      second-cut = refl;
      second-layout = refl;
      first_width = refl;
      second-width = refl;
      channels = refl;
      no_room = refl;
      as_it_was = refl;
    }
