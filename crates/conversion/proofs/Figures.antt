-- The figures hold: computed.
use mathlib.Core.Path.{refl}
use lib.Ieee.{of_bits, is_nan, of_fields, odd, span, climb, size}
use Rattle.format.specs.Desc.{format_at}
use Rattle.format.specs.Wide.{is_wide}
use Rattle.layout.specs.Order.{order_for}
use Rattle.layout.specs.Table.{standard_layouts}
use Rattle.reading.specs.Step.{desc_at, skip_at}
use Rattle.reading.specs.Rules.{strict_data, step_by}
use Rattle.reading.specs.Walk.{steps, walk}
use Rattle.reading.specs.Strict.{strict}
use Rattle.chan_reading.specs.Read.{chan_number}
use Rattle.chan_reading.specs.Find.{find_within, find_from}
use Rattle.wave.specs.Head.{fmt_chunk, opening_as, head_as, wave_file}
use Rattle.wave.specs.Making.{making_number}
use Rattle.conversion.specs.Said.{layout_number, described, labels_of}
use Rattle.conversion.specs.Conversion.{accepted_number, wave_from}
use Rattle.conversion.specs.Figures.{ConversionFigures}

pub conversion-figures : ConversionFigures
unfolding of_bits is_nan of_fields odd span climb size format_at is_wide desc_at skip_at strict_data step_by steps walk strict order_for standard_layouts chan_number find_within find_from fmt_chunk opening_as head_as wave_file making_number layout_number described labels_of accepted_number wave_from
conversion-figures =
    record {
      big = refl;
      little = refl;
      long = refl;
      by-tag = refl;
      fits = refl;
      no_room = refl;
      as_it_was = refl;
      no-chan = refl;
      bitmap = refl;
      other-label = refl;
      other_width = refl;
      not-closed = refl;
      other-layout = refl;
      past_end = refl;
    }
