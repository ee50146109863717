-- The rows of the limits all hold: one theorem, computed.
use lib.Dec.{T}
use lib.Ieee.{of_bits, to_bits, is_nan, of_fields, odd, span, climb, size}
use Rattle.format.specs.Desc.{desc_body, format_at}
use Rattle.layout.specs.Known.{known_label, known_tag}
use Rattle.layout.specs.Chan.{chan_body}
use Rattle.reading.specs.Step.{desc_at, skip_at}
use Rattle.reading.specs.Rules.{plain_data, strict_data, step_by}
use Rattle.reading.specs.Walk.{steps, walk}
use Rattle.reading.specs.Plain.{plain}
use Rattle.reading.specs.Strict.{strict}
use Rattle.writer.specs.Resume.{tail_number, resumed, resume_call}
use Rattle.writer.specs.Sound.{places_sound, format_sound, layout_sound, sound_alone, sound}
use Rattle.recovery.specs.Figures.{all_hold}
use Rattle.recovery.specs.Limits.{limit_rows}

pub limits : T (all_hold limit_rows)
unfolding of_bits to_bits is_nan of_fields odd span climb size desc_body format_at known_label known_tag chan_body desc_at skip_at plain_data strict_data step_by steps walk plain strict places_sound format_sound layout_sound sound_alone sound tail_number resumed resume_call limit_rows
limits = tt
