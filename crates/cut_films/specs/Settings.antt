-- The settings of a film's first session, by the definitions of the writer.
use Rattle.std.specs.Prelude.{[], ◌∷◌, Float}
use Rattle.byte_order.specs.Rate.{rate_of}
use Rattle.format.specs.declared.PCMDataType.TheVariants.{SignedInteger}
use Rattle.format.specs.declared.Endianness.TheVariants.{BigEndian}
use Rattle.layout.specs.Labels.{Left, Right}
use Rattle.layout.specs.Tags.{Stereo}
use Rattle.writer.specs.Record.{fresh}
use Rattle.writer.specs.Settings.{format_call, tag_call, labels_call}
use Rattle.writer.specs.declared.CAFWriter.{CAFWriter}
use Rattle.cut_films.specs.declared.film.LayoutBy.{LayoutBy}
use Rattle.cut_films.specs.declared.film.LayoutBy.TheVariants.{Nothing, Tag, Labels}

-- 48000 Hz
abbrev pub rate48000 : Float
rate48000 = rate_of 0x40e7_7000_0000_0000

-- a fresh record with the format of every film: two channels of 24 bits, signed and big-endian
abbrev pub formatted : CAFWriter
formatted = (format_call fresh rate48000 2 24 SignedInteger BigEndian).after

-- and with the layout: none, a tag, or labels, in an order that no tag has
abbrev pub settled_for : LayoutBy → CAFWriter
settled_for Nothing = formatted
settled_for Tag = (tag_call formatted Stereo).after
settled_for Labels = (labels_call formatted (Right ∷ Left ∷ []) 2).after
