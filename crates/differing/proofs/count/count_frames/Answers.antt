use Rattle.std.proofs.Common.{◌≡◌, ◌+◌, ◌≤◌, min, length, ◌∙◌, arith}
use Rattle.differing.proofs.GroupLaws.{fewer-there, begun}
use Rattle.differing.proofs.count.count_frames.Goals as goal

pub loop-from-init : goal.loop-from-init
loop-from-init c =
    let a = c.args in
    let z : min 0 a.frames ≡ 0 = omega arith in
    (c.group_frames-step.ensures, rw z (begun a.o a.one.now a.p a.two.now _ (length a.counts.now) (c.fill.ensures.after (λ y h. h))))

pub count_group-first-requires : goal.count_group-first-requires
count_group-first-requires c =
    let a = c.args in
    let from = c.loop-from.from in
    let next : from + c.min.result ≤ a.frames = omega arith in
    let here : min from a.frames ≡ from = omega arith in (
      omega arith,
      rw (c.loop-from.auto.counts ∙ c.fill.auto.self) (fewer-there a.one.now a.two.now (length a.counts.now) (from + c.min.result) a.frames next c.requires),
      rw here at c.loop-from.invariant.1,
    )

pub loop-from-preserved : goal.loop-from-preserved
loop-from-preserved c =
    let next : min (c.loop-from.from + c.group_frames-step.result) c.args.frames ≡ c.loop-from.from + c.min.result = omega arith in
    (c.loop-from.invariant.0, rw next c.count_group-first.ensures)

pub returns : goal.returns
returns c =
    let all : min c.loop-from.from c.args.frames ≡ c.args.frames = omega arith in
    rw all at c.loop-from.invariant.1
