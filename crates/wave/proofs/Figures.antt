-- The figures hold: computed.
use mathlib.Core.Path.{refl}
use lib.Ieee.{of_bits, of_fields, odd, span, climb, size}
use Rattle.format.specs.Wide.{is_wide}
use Rattle.wave.specs.Head.{fmt_chunk, opening_as, head_as, wave_file}
use Rattle.wave.specs.Making.{making_number}
use Rattle.wave.specs.Reader.{fields_as, can_be_made, is_made_wave, wave_read}
use Rattle.wave.specs.Figures.{HeadFigures, RateFigures, MakingFigures, ReadFigures, WaveFigures}

head-figures : HeadFigures
unfolding head_as opening_as fmt_chunk
head-figures =
    record {
      last = refl;
      last-is = refl;
      next = refl;
      next-is = refl;
      small = refl;
      last-stereo = refl;
      first-stereo = refl;
      first-format = refl;
      first_field = refl;
      huge = refl;
    }

rate-figures : RateFigures
unfolding of_bits of_fields odd span climb size
rate-figures =
    record {
      usual = refl;
      one = refl;
      below_one = refl;
      fraction = refl;
      largest = refl;
      above = refl;
      too_large = refl;
      negative = refl;
      none = refl;
      minus-none = refl;
      infinite = refl;
      no_number = refl;
    }

making-figures : MakingFigures
unfolding of_bits of_fields odd span climb size is_wide making_number
making-figures =
    record {
      made = refl;
      floats = refl;
      bits = refl;
      packet = refl;
      no-channel = refl;
      part = refl;
      first = refl;
      no-labels = refl;
      too_few = refl;
      too_many = refl;
      descending = refl;
      twice = refl;
      below = refl;
      highest = refl;
      above = refl;
      all = refl;
      no-rate = refl;
      second = refl;
      more-a-second = refl;
      size = refl;
      more = refl;
      mask = refl;
      last_bit = refl;
      all-bits = refl;
    }

read-figures : ReadFigures
unfolding head_as opening_as fmt_chunk wave_file fields_as can_be_made is_made_wave wave_read
read-figures =
    record {
      read = refl;
      pad = refl;
      no-pad = refl;
      more = refl;
      two-bits = refl;
      nothing = refl;
    }

pub wave-figures : WaveFigures
wave-figures = record { heads = head-figures; rates = rate-figures; making = making-figures; reading = read-figures }
