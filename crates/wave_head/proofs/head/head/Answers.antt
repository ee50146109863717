use Rattle.std.proofs.Common.{sym, lit≤}
use Rattle.wave.specs.declared.Kind.TheVariants.{Riff, Rf64}
use Rattle.wave_head.proofs.Parts.{head_done, length-opening}
use Rattle.wave_head.proofs.head.head.Goals as goal

pub returns-in-Riff : goal.returns-in-Riff
returns-in-Riff c =
    let w = c.args.fitting.wave in
    head_done Riff w 12 (sym c.in-Riff.ensures) (length-opening w).0 (lit≤ tt) c.riff_opening.ensures c.fmt_chunk-format.ensures c.data_header.ensures
    c.store.ensures.1 c.store-in-Riff.ensures.1 c.store-in-Riff-2.ensures.1

pub returns-in-Rf64 : goal.returns-in-Rf64
returns-in-Rf64 c =
    let w = c.args.fitting.wave in
    head_done Rf64 w 48 (sym c.in-Rf64.ensures) (length-opening w).1 (lit≤ tt) c.rf64_opening.ensures c.fmt_chunk-format.ensures c.data_header-in-Rf64.ensures
    c.store-in-Rf64.ensures.1 c.store-in-Rf64-2.ensures.1 c.store-in-Rf64-3.ensures.1
