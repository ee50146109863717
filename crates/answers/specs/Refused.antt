-- Refusals, and the number of each. Documents 01 and 02 speak of numbers, and so do the definitions and theorems of every crate; the code
-- answers with a `Result`, and its promises say by these which number it stands for.
use Rattle.std.specs.Prelude.{ℕ, ◌≡◌, refl, cond, eqb, List, [], ◌∷◌, Result, Ok, Err, Option, Some, None}
use Rattle.answers.specs.Numbers.{done, cut_short, not_caf, no_data, bad_size, bad_rate, bad_version, bad_desc, data_past_end, data_ends_early, finished, no_header, header_already, no_format, no_room_left, packet_too_big, bad_label, too_many_labels, bad_tag, bad_writer, odd_length, too_long, bad_layout, second_data, tail_after_data, not_closed, no_group, wrong_width, bad_tray, not_for_wave, cannot_compare, little_retired, bad_wave, data_begun}
use Rattle.answers.specs.declared.refusal.Refusal.{Refusal}
use Rattle.answers.specs.declared.refusal.Refusal.TheVariants.{CutShort, NotCaf, NoData, BadSize, BadRate, BadVersion, BadDesc, DataPastEnd, DataEndsEarly, Finished, NoHeader, HeaderAlready, NoFormat, NoRoom, PacketTooBig, BadLabel, TooManyLabels, BadTag, BadWriter, OddLength, TooLong, BadLayout, SecondData, TailAfterData, NotClosed, NoGroup, WrongWidth, BadTray, NotForWave, CannotCompare, LittleRetired, BadWave, DataBegun}

abbrev pub refusal_number : Refusal → ℕ
refusal_number CutShort = cut_short
refusal_number NotCaf = not_caf
refusal_number NoData = no_data
refusal_number BadSize = bad_size
refusal_number BadRate = bad_rate
refusal_number BadVersion = bad_version
refusal_number BadDesc = bad_desc
refusal_number DataPastEnd = data_past_end
refusal_number DataEndsEarly = data_ends_early
refusal_number Finished = finished
refusal_number NoHeader = no_header
refusal_number HeaderAlready = header_already
refusal_number NoFormat = no_format
refusal_number NoRoom = no_room_left
refusal_number PacketTooBig = packet_too_big
refusal_number BadLabel = bad_label
refusal_number TooManyLabels = too_many_labels
refusal_number BadTag = bad_tag
refusal_number BadWriter = bad_writer
refusal_number OddLength = odd_length
refusal_number TooLong = too_long
refusal_number BadLayout = bad_layout
refusal_number SecondData = second_data
refusal_number TailAfterData = tail_after_data
refusal_number NotClosed = not_closed
refusal_number NoGroup = no_group
refusal_number WrongWidth = wrong_width
refusal_number BadTray = bad_tray
refusal_number NotForWave = not_for_wave
refusal_number CannotCompare = cannot_compare
refusal_number LittleRetired = little_retired
refusal_number BadWave = bad_wave
refusal_number DataBegun = data_begun

-- the number of what a call came to
abbrev pub outcome_number : {A : Type 0} → Result A Refusal → ℕ
outcome_number (Ok x) = done
outcome_number (Err r) = refusal_number r

-- every refusal, in the order of the numbers
abbrev pub refusals : List Refusal
refusals =
    CutShort ∷ NotCaf ∷ NoData ∷ BadSize ∷ BadRate ∷ BadVersion ∷ BadDesc ∷ DataPastEnd ∷ DataEndsEarly ∷ Finished ∷ NoHeader ∷ HeaderAlready ∷ NoFormat ∷ NoRoom ∷ PacketTooBig ∷ BadLabel ∷ TooManyLabels ∷ BadTag ∷ BadWriter ∷ OddLength ∷ TooLong ∷ BadLayout ∷ SecondData ∷ TailAfterData ∷ NotClosed ∷ NoGroup ∷ WrongWidth ∷ BadTray ∷ NotForWave ∷ CannotCompare ∷ LittleRetired ∷ BadWave ∷ DataBegun ∷ []

-- the refusal that has a number, among these
abbrev pub refusal_in : ℕ → List Refusal → Option Refusal
refusal_in n [] = None
refusal_in n (r ∷ rs) = cond (eqb (refusal_number r) n) (Some r) (refusal_in n rs)

abbrev pub refusal_for : ℕ → Option Refusal
refusal_for n = refusal_in n refusals

-- its number tells a refusal, so that an outcome is told by its number where no value goes with it
pub number-tells : (r : Refusal) → refusal_for (refusal_number r) ≡ Some r
number-tells CutShort = refl
number-tells NotCaf = refl
number-tells NoData = refl
number-tells BadSize = refl
number-tells BadRate = refl
number-tells BadVersion = refl
number-tells BadDesc = refl
number-tells DataPastEnd = refl
number-tells DataEndsEarly = refl
number-tells Finished = refl
number-tells NoHeader = refl
number-tells HeaderAlready = refl
number-tells NoFormat = refl
number-tells NoRoom = refl
number-tells PacketTooBig = refl
number-tells BadLabel = refl
number-tells TooManyLabels = refl
number-tells BadTag = refl
number-tells BadWriter = refl
number-tells OddLength = refl
number-tells TooLong = refl
number-tells BadLayout = refl
number-tells SecondData = refl
number-tells TailAfterData = refl
number-tells NotClosed = refl
number-tells NoGroup = refl
number-tells WrongWidth = refl
number-tells BadTray = refl
number-tells NotForWave = refl
number-tells CannotCompare = refl
number-tells LittleRetired = refl
number-tells BadWave = refl
number-tells DataBegun = refl
