use mathlib.Core.Path.{◌≡◌, sym, ◌∙◌}
use native.Mathlib.Omega.{arith}
use lib.ListN.{length}
use borrow.Author.Rules.{rules}
use Rattle.feeding.proofs.WholeChunks.{walked-lies, past-some}
use Rattle.feeding.proofs.chunks.past_chunks.Goals as goal

pub overflow_add-w : goal.overflow_add-w
overflow_add-w c = let l = walked-lies _ _ c.walk-w.ensures c.if-w-eq0.false in omega (arith, l.0)

pub slice_bounds-copy_from_slice-end-2 : goal.slice_bounds-copy_from_slice-end-2
slice_bounds-copy_from_slice-end-2 c = let l = walked-lies _ _ c.walk-w.ensures c.if-w-eq0.false in omega (arith, l.0)

pub overflow_add-result : goal.overflow_add-result
overflow_add-result c = let l = walked-lies _ _ c.walk-w.ensures c.if-w-eq0.false in omega (arith, l.1, c.requires.0)

pub overflow_add-result-2 : goal.overflow_add-result-2
overflow_add-result-2 c = let l = walked-lies _ _ c.walk-w.ensures c.if-w-eq0.false in omega (arith, l.1, l.2, c.requires.0, c.requires.1)

pub returns : goal.returns
returns c =
    let l = walked-lies _ _ c.walk-w.ensures c.if-w-eq0.false in
    let room : length c.args.r.held ≡ 32 = search rules in
    past-some _ c.args.r _ _ c.walk-w.ensures (sym c.is_header.ensures ∙ c.if-not-is_header.false) c.if-r-ne0.false c.if-w-eq0.false room c.requires.0 c.copy_from_slice.ensures.after
