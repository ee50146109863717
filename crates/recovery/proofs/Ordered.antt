-- The rows of T-13 all hold: one theorem, computed.
use lib.Dec.{T}
use lib.Ieee.{of_bits, to_bits, is_nan, of_fields, odd, span, climb, size}
use Rattle.format.specs.Desc.{format_at}
use Rattle.reading.specs.Step.{desc_at, skip_at}
use Rattle.reading.specs.Rules.{plain_data, strict_data, step_by}
use Rattle.reading.specs.Walk.{steps, walk}
use Rattle.reading.specs.Plain.{plain}
use Rattle.reading.specs.Strict.{strict}
use Rattle.writer.specs.Sound.{places_sound, format_sound, layout_sound, sound_alone, sound}
use Rattle.writer.specs.Header.{header_bytes_of, header_number, header_call}
use Rattle.writer.specs.Data.{data_number, data_call, samples_number, samples_call}
use Rattle.writer.specs.Finish.{finish_number, finish_call}
use Rattle.writer.specs.Settings.{format_call, configure_call}
use Rattle.writer.specs.Resume.{tail_number, resumed, resume_call}
use Rattle.recovery.specs.Session.{run}
use Rattle.recovery.specs.Figures.{all_hold}
use Rattle.recovery.specs.AnyFile.{order_rows}

pub ordered : T (all_hold order_rows)
unfolding of_bits to_bits is_nan of_fields odd span climb size format_at desc_at skip_at step_by steps walk plain_data plain strict_data strict places_sound format_sound layout_sound sound_alone sound header_bytes_of header_number header_call data_number data_call samples_number samples_call finish_number finish_call format_call configure_call tail_number resumed resume_call run order_rows
ordered = tt
