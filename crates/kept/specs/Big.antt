-- 02, T-13: no call makes a little-endian record but the resume of a file whose `desc` says that it is little-endian.
use Rattle.std.specs.Prelude.{ℕ, ◌≡◌, List, ℤ, Float}
use Rattle.format.specs.declared.PCMDataType.{PCMDataType}
use Rattle.format.specs.declared.Endianness.{Endianness}
use Rattle.format.specs.declared.Endianness.TheVariants.{BigEndian}
use Rattle.writer.specs.Record.{fresh}
use Rattle.writer.specs.Outcome.{Outcome}
use Rattle.writer.specs.Header.{header_call}
use Rattle.writer.specs.Data.{data_call, samples_call}
use Rattle.writer.specs.Finish.{finish_call}
use Rattle.writer.specs.Settings.{format_call, tag_call, labels_call, configure_call, group_call}
use Rattle.writer.specs.Overview.{overview_call}
use Rattle.writer.specs.declared.CAFWriter.{CAFWriter}

-- what a call leaves is big-endian where what it found was
abbrev pub StaysBig : CAFWriter → Outcome → Type 0
StaysBig w o = w.endianness ≡ BigEndian → o.after.endianness ≡ BigEndian

-- a fresh record is, and every call on a record leaves it so, accepted or refused
pub record BigStays : Type 0 where
  pub begun : fresh.endianness ≡ BigEndian
  pub header : (w : CAFWriter) (room : ℕ) → StaysBig w (header_call w room)
  pub bytes : (w : CAFWriter) (room : ℕ) (bytes : List ℕ) → StaysBig w (data_call w room bytes)
  pub samples : (w : CAFWriter) (room : ℕ) (samples : List ℤ) → StaysBig w (samples_call w room samples)
  pub finish : (w : CAFWriter) (room : ℕ) → StaysBig w (finish_call w room)
  pub format : (w : CAFWriter) (rate : Float) (channels bits : ℕ) (t : PCMDataType) (e : Endianness) → StaysBig w (format_call w rate channels bits t e)
  pub tag : (w : CAFWriter) (tag : ℕ) → StaysBig w (tag_call w tag)
  pub labels : (w : CAFWriter) (ls : List ℕ) (channels : ℕ) → StaysBig w (labels_call w ls channels)
  pub configure : (w : CAFWriter) (rate : Float) (channels bits : ℕ) (ls : List ℕ) → StaysBig w (configure_call w rate channels bits ls)
  pub group : (w : CAFWriter) (g : ℕ) → StaysBig w (group_call w g)
  pub overview : (w : CAFWriter) (buf : List ℕ) → StaysBig w (overview_call w buf)
