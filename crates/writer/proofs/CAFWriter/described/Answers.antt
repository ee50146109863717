use Rattle.writer.specs.Record.{with_places}
use Rattle.layout.specs.declared.ChannelLayout.TheVariants.{Described}
use Rattle.layout.specs.Setting.{padded}
use lib.Seq.{take_all}
use lib.ListN.{length}
use native.Mathlib.Omega.{arith}
use Prim.Native.Nat.{ℕ}
use mathlib.Core.List.{List}
use mathlib.Core.Path.{◌∙◌, ap}
use Rattle.writer.proofs.CAFWriter.described.Goals as goal

pub returns : goal.returns
returns c =
    let a = c.args in
    c.with_places.ensures
    ∙ ap (λ (p : List ℕ). with_places a.self Described p (length a.labels.now)) (c.padded_labels.ensures ∙ ap padded (take_all 64 a.labels.now (omega arith)))
