-- A record of the code: the declared types bound the numbers of its format. So the header call keeps the rule of specs/Settled on each of
-- them, with nothing asked of the numbers. `Is W.the_row w vs` says that w is a value of the struct `CAFWriter`, which the machine holds as vs.
use Rattle.std.proofs.Common.{Option, Some, None}
use mathlib.Core.Path.{sym, subst}
use mathlib.Core.List.{List}
use Prim.Native.Nat.{ℕ}
use lib.Dec.{T}
use lib.ListN.{length}
use mir.Val.{Val}
use denote.Laws.{Is}
use denote.Struct.Laws as structs
use denote.Enum.Laws as enums
use Rattle.format.specs.Desc.{Typed, TypedFormat}
use Rattle.format.specs.declared.AudioFormat.{AudioFormat}
use Rattle.format.specs.contracts.AudioFormat as F
use Rattle.format.proofs.AudioFormat.TheLaws as F'
use Rattle.std.specs.contracts.option.Option as O
use Rattle.std.proofs.option.Option.TheLaws as O'
use Rattle.writer.specs.Header.{header_call}
use Rattle.kept.specs.Settled.{KeptBy}
use Rattle.writer.specs.declared.CAFWriter.{CAFWriter}
use Rattle.writer.specs.contracts.CAFWriter as W
use Rattle.writer.proofs.CAFWriter.TheLaws as W'
use Rattle.kept.proofs.SettledKept.{settled-kept}

-- each field in its turn: its value, and what its type says of it
format-typed : (f : AudioFormat) (vs : List Val) → Is F.the_row f vs → Typed f
format-typed f vs is =
    let o = structs.owed F.the_type F'.the_laws f vs is in
    record {
      rate = subst T (sym o.0.1) tt;
      id = o.1.0.1;
      flags = o.1.1.0.1;
      packet = o.1.1.1.0.1;
      frames = o.1.1.1.1.0.1;
      channels = o.1.1.1.1.1.0.1;
      bits = o.1.1.1.1.1.1.0.1;
    }

maybe-typed : (m : Option AudioFormat) (vs : List Val) → Is (O.the_row F.the_row) m vs → TypedFormat m
maybe-typed None vs is = tt
maybe-typed (Some f) vs is = format-typed f _ (enums.owed (O.the_type F.the_row) (O'.the_laws F.the_row F'.the_row_laws F'.the_told) (Some f) vs is).0

pub header-kept : (w : CAFWriter) (vs : List Val) (buffer : List ℕ) → Is W.the_row w vs → KeptBy w buffer (header_call w (length buffer))
header-kept w vs buffer is = settled-kept.header w buffer (maybe-typed w.format _ (structs.owed W.the_type W'.the_laws w vs is).0)
