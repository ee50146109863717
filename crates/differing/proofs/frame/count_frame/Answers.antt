use Rattle.std.proofs.Common.{◌≡◌, ℕ, ◌+◌, ◌*◌, suc, ◌||◌, length, get_or, set, ◌∙◌, ap, arith, add-one}
use Rattle.std.proofs.Math.Seq.{paste}
use Rattle.difference.specs.Counting.{one_if, counts_to, frame_differs}
use Rattle.difference.specs.Difference.{differ}
use Rattle.difference.specs.Sides.{sample_in}
use Rattle.differing.specs.State.{by}
use Rattle.differing.proofs.FrameLaws.{counted, at_most_one, bound, stored, all}
use Rattle.differing.proofs.frame.count_frame.Goals as goal

pub overflow_add-counts : goal.overflow_add-counts
overflow_add-counts c =
    let a = c.args in
    let m = bound a.o a.one.now a.p a.two.now a.counts.now a.first a.i c.requires.1 c.loop-c.counts c.loop-c.c (omega arith) c.loop-c.invariant.1 in
    let r = c.requires.0.few in
    let one = at_most_one c.first_differs-differs.result in
    omega (arith, c.from.ensures)

pub overflow_add-counts-then-c-pairs-2 : goal.overflow_add-counts-then-c-pairs-2
overflow_add-counts-then-c-pairs-2 c =
    let a = c.args in
    let w = c.requires.1 in
    let e = stored a.o a.one.now a.p a.two.now a.counts.now a.first a.i w c.loop-c.counts c.loop-c.c c.from.result (omega arith) c.loop-c.invariant.1 (c.from.ensures ∙ counted _ ∙ ap one_if c.first_differs-differs.ensures) in
    let m = bound a.o a.one.now a.p a.two.now a.counts.now a.first a.i w (set c.loop-c.counts c.loop-c.c (get_or c.loop-c.counts c.loop-c.c 0 + c.from.result)) (c.loop-c.c + 1) (let f = c.paired-pairs.ensures.0 in omega arith) e in
    let r = c.requires.0.few in
    let one = at_most_one c.first_differs-differs.result in
    let other = at_most_one c.second_differs-next.result in
    omega (arith, c.from-then-c-pairs.ensures)

pub loop-c-preserved-then-c-pairs : goal.loop-c-preserved-then-c-pairs
loop-c-preserved-then-c-pairs c =
    let a = c.args in
    let w = c.requires.1 in
    let n = length a.counts.now in
    let x = by a.o a.one.now a.p a.two.now a.counts.now in
    let here = set c.loop-c.counts c.loop-c.c (get_or c.loop-c.counts c.loop-c.c 0 + c.from.result) in
    let f = c.paired-pairs.ensures.0 in
    let y : a.i * n + c.loop-c.c + 1 ≡ a.i * n + (c.loop-c.c + 1) = omega arith in
    let d : c.first_differs-differs.result ≡ x a.i c.loop-c.c = c.first_differs-differs.ensures in
    let g : c.second_differs-next.result ≡ x a.i (c.loop-c.c + 1) =
    c.second_differs-next.ensures ∙ ap (λ (k : ℕ). differ (sample_in a.o a.one.now k) (sample_in a.p a.two.now k)) y in
    let e = stored a.o a.one.now a.p a.two.now a.counts.now a.first a.i w c.loop-c.counts c.loop-c.c c.from.result (omega arith) c.loop-c.invariant.1 (c.from.ensures ∙ counted _ ∙ ap one_if d) in
    let k = stored a.o a.one.now a.p a.two.now a.counts.now a.first a.i w here (c.loop-c.c + 1) c.from-then-c-pairs.result (omega arith) e (c.from-then-c-pairs.ensures ∙ counted _ ∙ ap one_if g) in
    let z : c.loop-c.c + 1 + 1 ≡ c.loop-c.c + 2 = omega arith in
    let q : suc (suc c.loop-c.c) ≡ c.loop-c.c + 2 = omega arith in
    let v : c.loop-c.any || c.first_differs-differs.result || c.second_differs-next.result ≡ frame_differs x a.i (suc (suc c.loop-c.c)) =
    rw (c.loop-c.invariant.2, d, g, add-one c.loop-c.c) in
    (omega arith, k ∙ ap (paste a.counts.now 0 (counts_to x (suc a.i) n)) z, v ∙ ap (frame_differs x a.i) q)

pub overflow_add-counts-else-c-pairs : goal.overflow_add-counts-else-c-pairs
overflow_add-counts-else-c-pairs c =
    let a = c.args in
    let m = bound a.o a.one.now a.p a.two.now a.counts.now a.first a.i c.requires.1 c.loop-c.counts c.loop-c.c (omega arith) c.loop-c.invariant.1 in
    let r = c.requires.0.few in
    let one = at_most_one c.differ_at-differs.result in
    omega (arith, c.from-else-c-pairs.ensures)

pub loop-c-preserved : goal.loop-c-preserved
loop-c-preserved c =
    let a = c.args in
    let x = by a.o a.one.now a.p a.two.now a.counts.now in
    let d : c.differ_at-differs.result ≡ x a.i c.loop-c.c = c.differ_at-differs.ensures in (
      omega arith,
      stored a.o a.one.now a.p a.two.now a.counts.now a.first a.i c.requires.1 c.loop-c.counts c.loop-c.c _ (omega arith) c.loop-c.invariant.1 (c.from-else-c-pairs.ensures ∙ counted _ ∙ ap one_if d),
      rw (add-one, c.loop-c.invariant.2, d),
    )

pub returns : goal.returns
returns c =
    let a = c.args in
    let x = by a.o a.one.now a.p a.two.now a.counts.now in
    let n : c.loop-c.c ≡ length a.counts.now = omega arith in
    rw c.or_at.ensures
    (all a.o a.one.now a.p a.two.now a.counts.now a.first a.i c.requires.1 c.loop-c.counts c.loop-c.any
    (c.loop-c.invariant.1 ∙ ap (paste a.counts.now 0 (counts_to x (suc a.i) (length a.counts.now))) n)
    (c.loop-c.invariant.2 ∙ ap (frame_differs x a.i) n))
