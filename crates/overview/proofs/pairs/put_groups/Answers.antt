use mathlib.Core.Path.{ap, ◌∙◌}
use Prim.Native.Nat.{ℕ, suc, ◌+◌, ◌-◌, ◌*◌, ◌≤◌, ◌<◌}
use native.Mathlib.Nat.{mul-le-mul_left, mul-le-mul_right}
use native.Mathlib.Numerals.{add-one}
use native.Mathlib.Omega.{arith}
use lib.ListN.{length}
use Rattle.byte_order.specs.Splice.{splice}
use Rattle.overview.specs.Groups.{group_count, channel_pairs}
use Rattle.overview.proofs.Lengths.{mul_next}
use Rattle.overview.proofs.SameSamples.{group-first, group-within}
use Rattle.overview.proofs.Stored.{group-put}
use Rattle.overview.proofs.pairs.put_groups.Goals as goal
use Rattle.overview.proofs.pairs.put_groups.Goals.{In-loop-k}

-- the group k is one of those that there are
there : (c : In-loop-k) → c.loop-k.k < group_count c.args.group c.args.frames
there c = omega (arith, c.requires.0)

pub put_group-requires : goal.put_group-requires
put_group-requires c =
    let k = c.loop-k.k in
    let a = c.args in
    let t = a.track in
    let n : suc k ≤ a.count = omega arith in
    let up = mul-le-mul_left t.channels n in
    let m = mul_next t.channels k in
    let w = group-within a.group a.frames k (there (goal.at.put_group-requires c).In-loop-k) in
    let g = group-first a.group a.frames k (there (goal.at.put_group-requires c).In-loop-k) in
    let ends : k * a.group + (c.min-more.result - 1) + 1 ≤ a.frames = omega (arith, c.min-more.ensures, g.0, g.1) in
    let before = mul-le-mul_right t.channels ends in
    (omega arith, omega arith, omega arith)

pub loop-k-preserved : goal.loop-k-preserved
loop-k-preserved c =
    let a = c.args in
    let t = a.track in
    let put = c.put_group.ensures ∙ ap (λ (n : ℕ). splice c.loop-k.buf (a.at + 4 * (t.channels * c.loop-k.k)) (channel_pairs t c.loop-k.buf (c.loop-k.k * a.group) (n - 1) t.channels)) c.min-more.ensures in
    let room : a.at + 4 * (t.channels * group_count a.group a.frames) ≤ length a.buf.now = rw (← c.requires.0) c.requires.2 in
    rw add-one (group-put t a.buf.now c.loop-k.buf c.put_group.new.buf a.group a.frames a.at c.loop-k.k (there (goal.at.loop-k-preserved c).In-loop-k) c.requires.1 room c.loop-k.invariant put)
