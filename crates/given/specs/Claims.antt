-- 01, Numbers given back: the calls answer by the rows and by no others. So one row applies to every call, and the rows that apply to one
-- call give one number.
use Rattle.std.specs.Prelude.{ℕ, ◌*◌, ◌≡◌, List, ◌↔◌, length, ℤ, Float}
use Rattle.format.specs.Setting.{format_number}
use Rattle.format.specs.declared.PCMDataType.{PCMDataType}
use Rattle.format.specs.declared.Endianness.{Endianness}
use Rattle.format.specs.declared.Endianness.TheVariants.{BigEndian}
use Rattle.layout.specs.Setting.{tag_number, labels_number}
use Rattle.pcm.specs.Packing.{sample_size, pack_number}
use Rattle.pcm.specs.Unpacking.{unpack_number}
use Rattle.writer.specs.Header.{header_number, header_call}
use Rattle.writer.specs.Data.{data_number, data_call, samples_number, samples_call}
use Rattle.writer.specs.Finish.{finish_number, finish_call}
use Rattle.writer.specs.Resume.{resumed, resume_call}
use Rattle.writer.specs.Overview.{overview_number, overview_call}
use Rattle.writer.specs.Settings.{setting_number, first, group_number, format_call, tag_call, labels_call, configure_call, group_call}
use Rattle.writer.specs.declared.CAFWriter.{CAFWriter}
use Rattle.given.specs.Rows.{HeaderGives, DataGives, SamplesGives, FinishGives, ResumeGives, OverviewGives, GroupGives, SettingGives, FormatGives, TagGives, LabelsGives, ConfigureGives, PackGives, UnpackGives}

pub record GivenExactly : Type 0 where
  pub header : (w : CAFWriter) (room number : ℕ) → (header_number w room ≡ number) ↔ HeaderGives w room number
  pub bytes : (w : CAFWriter) (room n number : ℕ) → (data_number w room n ≡ number) ↔ DataGives w room n number
  pub samples : (w : CAFWriter) (room n number : ℕ) → (samples_number w room n ≡ number) ↔ SamplesGives w room n number
  pub finish : (w : CAFWriter) (room number : ℕ) → (finish_number w room ≡ number) ↔ FinishGives w room number
  pub resume : (buf : List ℕ) (len number : ℕ) → ((resumed buf len).number ≡ number) ↔ ResumeGives buf len number
  pub overview : (w : CAFWriter) (room number : ℕ) → (overview_number w room ≡ number) ↔ OverviewGives w room number
  pub group : (w : CAFWriter) (number : ℕ) → (group_number w ≡ number) ↔ GroupGives w number
  pub setting : (w : CAFWriter) (own number : ℕ) → (setting_number w own ≡ number) ↔ SettingGives w own number
  pub format : (rate : Float) (channels bits : ℕ) (e : Endianness) (number : ℕ) → (format_number rate channels bits e ≡ number) ↔ FormatGives rate channels bits e number
  pub tag : (t number : ℕ) → (tag_number t ≡ number) ↔ TagGives t number
  pub labels : (ls : List ℕ) (channels number : ℕ) → (labels_number ls channels ≡ number) ↔ LabelsGives ls channels number
  pub configure : (rate : Float) (channels bits : ℕ) (ls : List ℕ) (number : ℕ) → (first (format_number rate channels bits BigEndian) (labels_number ls channels) ≡ number) ↔ ConfigureGives rate channels bits ls number
  pub pack : (xs : List ℤ) (room number : ℕ) → (pack_number xs room ≡ number) ↔ PackGives (length xs) room number
  pub unpack : (bytes : List ℕ) (room number : ℕ) → (unpack_number bytes room ≡ number) ↔ UnpackGives (length bytes) room number

-- and these numbers are those that the calls themselves give
pub record NumbersOfCalls : Type 0 where
  pub header : (w : CAFWriter) (room : ℕ) → (header_call w room).number ≡ header_number w room
  pub bytes : (w : CAFWriter) (room : ℕ) (bytes : List ℕ) → (data_call w room bytes).number ≡ data_number w room (length bytes)
  pub samples : (w : CAFWriter) (room : ℕ) (xs : List ℤ) → (samples_call w room xs).number ≡ samples_number w room (sample_size * length xs)
  pub finish : (w : CAFWriter) (room : ℕ) → (finish_call w room).number ≡ finish_number w room
  pub resume : (buf : List ℕ) (len : ℕ) → (resume_call buf len).number ≡ (resumed buf len).number
  pub overview : (w : CAFWriter) (buf : List ℕ) → (overview_call w buf).number ≡ overview_number w (length buf)
  pub group : (w : CAFWriter) (frames : ℕ) → (group_call w frames).number ≡ group_number w
  pub format : (w : CAFWriter) (rate : Float) (channels bits : ℕ) (t : PCMDataType) (e : Endianness)
      → (format_call w rate channels bits t e).number ≡ setting_number w (format_number rate channels bits e)
  pub tag : (w : CAFWriter) (t : ℕ) → (tag_call w t).number ≡ setting_number w (tag_number t)
  pub labels : (w : CAFWriter) (ls : List ℕ) (channels : ℕ) → (labels_call w ls channels).number ≡ setting_number w (labels_number ls channels)
  pub configure : (w : CAFWriter) (rate : Float) (channels bits : ℕ) (ls : List ℕ)
      → (configure_call w rate channels bits ls).number ≡ setting_number w (first (format_number rate channels bits BigEndian) (labels_number ls channels))
