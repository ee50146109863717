-- The figures of the small tray hold: computed, but for the one that takes any bytes.
use mathlib.Core.Path.{refl, sym}
use mathlib.Core.List.{◌∷◌}
use native.Mathlib.Omega.{arith}
use lib.Ieee.{of_bits, to_bits, is_nan, of_fields, odd, span, climb, size}
use Rattle.format.specs.Desc.{format_at}
use Rattle.reading.specs.Step.{desc_at, skip_at}
use Rattle.reading.specs.Rules.{strict_data, step_by}
use Rattle.reading.specs.Walk.{steps, walk}
use Rattle.reading.specs.Strict.{strict}
use Rattle.tray.specs.Reading.{tray_number}
use Rattle.tray.specs.Making.{making_number}
use Rattle.tray.specs.Figures.{TrayFigures}
use Rattle.tray.proofs.Number.{many}

pub tray-figures : TrayFigures
unfolding of_bits to_bits is_nan of_fields odd span climb size format_at desc_at skip_at strict_data step_by steps walk strict tray_number making_number
tray-figures =
    record {
      read = refl;
      fits = refl;
      no_room = refl;
      as_it_was = refl;
      inside = refl;
      past = refl;
      cut-table = refl;
      cut-count = refl;
      none = refl;
      too_many = λ rest room. sym (many (0 ∷ 0 ∷ 16 ∷ 1 ∷ rest) room (omega arith) (omega arith));
      made = refl;
      no_place = refl;
      other-sum = refl;
    }
