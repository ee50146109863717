use Rattle.std.proofs.Common.{◌≡◌, ◌+◌, ◌-◌, ◌%◌, ◌∙◌, arith, min, length, sym, ap, length-drop, List, ℕ, refl}
use Rattle.std.specs.Slice.Iter.{chunks_rest}
use Rattle.byte_order.specs.Splice.{splice}
use Rattle.turning.specs.Turned.{turned}
use Rattle.turning.specs.Claims.{Bytes}
use Rattle.turning.proofs.Turns.{part_bytes, turn-put, next-turn, block_of}
use Rattle.turning.proofs.put.put_turned.Goals as goal

pub loop-block-preserved : goal.loop-block-preserved
loop-block-preserved c =
    let a = c.args in
    let s = a.samples.now in
    let b = c.in-Some.block.now in
    let p = c.loop-block.place - a.at in
    let n = length b in
    let i = c.loop-block.invariant in
    let step = c.in-Some.ensures.steps in
    let place : c.loop-block.place ≡ a.at + p = omega (arith, i.4) in
    let cut = block_of s b (chunks_rest c.next.new.self) p (sym i.7 ∙ step.1.0) in
    let many : n ≡ min 768 (length s - p) = rw (i.2, i.7, length-drop p s) at step.1.1 in
    let whole : n % 3 ≡ 0 = omega (arith, i.6) in
    let bytes : Bytes b = rw cut.0 (part_bytes s p n (λ k. (c.type_inv.samples k).fits)) in
    let put : c.pack_first-place.new.buf ≡ splice c.loop-block.out (a.at + p) (turned b) =
    turn-put b bytes whole c.loop-block.numbers (omega (arith, i.3)) n (a.at + p) c.loop-block.out _ _ refl (omega (arith, i.5)) c.unpack.ensures.stored (rw place at c.pack_first-place.ensures.1) in
    let next : c.loop-block.place + n - a.at ≡ p + n = omega arith in
    let stored = next-turn s p n a.at a.out.now c.loop-block.out _ (omega (arith, i.5)) i.6 whole c.requires.0 i.8 (put ∙ ap (λ (l : List ℕ). splice c.loop-block.out (a.at + p) (turned l)) cut.0) in (
      omega (arith, i.2, step.0),
      tt,
      step.0 ∙ i.2,
      c.unpack.auto.out ∙ i.3,
      omega (arith, i.4),
      omega (arith, i.5),
      rw next (omega (arith, i.6)),
      rw next cut.1,
      rw next stored,
    )
