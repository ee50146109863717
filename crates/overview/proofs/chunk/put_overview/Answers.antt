use mathlib.Core.Path.{◌≡◌, sym, ap, ◌∙◌}
use mathlib.Core.Bool.{true}
use Prim.Native.Nat.{ℕ, ◌+◌, ◌*◌, ◌≤◌}
use native.Mathlib.Omega.{arith}
use lib.ListN.{length}
use Rattle.byte_order.specs.Splice.{splice}
use Rattle.overview.specs.Groups.{group_count, group_pairs}
use Rattle.overview.specs.Put.{end_of, can_put}
use Rattle.overview.proofs.Counts.{can_put_says}
use Rattle.overview.proofs.Stored.{head, chunk-put}
use Rattle.overview.proofs.chunk.put_overview.Goals as goal
use Rattle.overview.proofs.chunk.put_overview.Goals.{After-group_count-count}

-- what the test has shown
tested : (c : After-group_count-count) → can_put c.args.track c.args.group c.args.frames c.args.at (length c.args.buf.now) ≡ true
tested c = sym c.can_put.ensures ∙ c.if-not-can_put.false

fits : (c : After-group_count-count)
    → (end_of c.args.track c.args.frames ≤ c.args.at)
    × (c.args.at + 20 + 4 * (c.args.track.channels * c.group_count-count.result) ≤ length c.args.buf.now)
fits c =
    let a = c.args in
    let s = can_put_says a.track a.group a.frames a.at (length a.buf.now) (tested c) in
    (s.0, rw c.group_count-count.ensures (omega (arith, s.1)))

pub returns : goal.returns
returns c =
    let a = c.args in
    let t = a.track in
    let f = fits (goal.at.returns c).After-group_count-count in
    let count = c.group_count-count.ensures in
    let room : a.at + 20 + 4 * (t.channels * group_count a.group a.frames) ≤ length a.buf.now = rw (← count) f.1 in
    let one : c.put_head.new.buf ≡ splice a.buf.now a.at (head (8 + 4 * (t.channels * group_count a.group a.frames)) a.edits a.group) =
    c.put_head.ensures ∙ ap (λ (k : ℕ). splice a.buf.now a.at (head (8 + 4 * (t.channels * k)) a.edits a.group)) count in
    let two : c.put_groups.new.buf ≡ splice c.put_head.new.buf (a.at + 20) (group_pairs t c.put_head.new.buf a.group a.frames (group_count a.group a.frames)) =
    c.put_groups.ensures ∙ ap (λ (k : ℕ). splice c.put_head.new.buf (a.at + 20) (group_pairs t c.put_head.new.buf a.group a.frames k)) count in
    (rw (tested (goal.at.returns c).After-group_count-count), rw (tested (goal.at.returns c).After-group_count-count) (chunk-put t a.buf.now c.put_head.new.buf c.put_groups.new.buf a.edits a.group a.frames a.at f.0 room one two))
