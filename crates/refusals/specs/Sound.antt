-- 01, Numbers given back: when a record is sound, by its parts. BadWriter (19) refuses one that is not. Parts that are absent are not tested.
use Rattle.std.specs.Prelude.{ℕ, ◌+◌, ◌-◌, Bool, true, cond, not, ◌&&◌, List, take, leb, eqb, Option, Some, None}
use Rattle.byte_order.specs.Rate.{not_aNumber}
use Rattle.format.specs.declared.AudioFormat.{AudioFormat}
use Rattle.format.specs.Flags.{endianness_for, same_order}
use Rattle.format.specs.declared.Endianness.{Endianness}
use Rattle.layout.specs.Known.{known_tag, are_known}
use Rattle.layout.specs.Setting.{label_places}
use Rattle.layout.specs.declared.ChannelLayout.{ChannelLayout}
use Rattle.layout.specs.declared.ChannelLayout.TheVariants.{NoLayout, Tagged, Described}
use Rattle.reading.specs.Types.{size_to_data, least_start}

-- the places of a record with a header: the data start 12 bytes after their size field, no earlier than they can and within the file, and the
-- data counted in this session fit between there and the end
abbrev pub headed_sound_as : (size_position_of data_start_of fileLen dataCount : ℕ) → Bool
headed_sound_as size_position_of data_start_of fileLen dataCount =
    eqb data_start_of (size_position_of + size_to_data) && leb least_start data_start_of && leb data_start_of fileLen && leb dataCount (fileLen - data_start_of)

-- before one: nothing is stored, counted or finished
abbrev pub empty_sound_as : (fileLen dataCount : ℕ) (finished : Bool) → Bool
empty_sound_as fileLen dataCount finished = eqb fileLen 0 && eqb dataCount 0 && not finished

abbrev pub places_sound_as : (hasHeader : Bool) (size_position_of data_start_of fileLen dataCount : ℕ) (finished : Bool) → Bool
places_sound_as hasHeader size_position_of data_start_of fileLen dataCount finished =
    cond hasHeader (headed_sound_as size_position_of data_start_of fileLen dataCount) (empty_sound_as fileLen dataCount finished)

-- the rate is not a not-a-number
abbrev pub rate_sound : Option AudioFormat → Bool
rate_sound None = true
rate_sound (Some f) = not (not_aNumber f.sample_rate)

-- the rate, and the byte order, which is the one that the format tells
abbrev pub format_sound_as : Option AudioFormat → Endianness → Bool
format_sound_as format endianness = rate_sound format && same_order endianness (endianness_for format)

-- the count is within the places, and the labels in the first `count` of them are known ones
abbrev pub labels_sound : ℕ → List ℕ → Bool
labels_sound count places = leb count label_places && are_known (take count places)

-- what is tested of a layout: a known tag, or the labels
abbrev pub layout_sound_as : ChannelLayout → ℕ → List ℕ → Bool
layout_sound_as NoLayout count places = true
layout_sound_as (Tagged tag) count places = known_tag tag
layout_sound_as Described count places = labels_sound count places
