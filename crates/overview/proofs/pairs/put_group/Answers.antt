use Rattle.overview.proofs.Blocks.{ends-before, first_block, put-over, block-put}
use Rattle.overview.specs.Height.{block_pairs}
use mathlib.Core.Bool.{false}
use Rattle.overview.specs.Put.{end_of}
use Rattle.overview.specs.Groups.{channel_pairs}
use Rattle.byte_order.specs.Splice.{splice}
use lib.ListN.{length, get_or}
use native.Mathlib.Omega.{arith}
use native.Mathlib.Numerals.{add-one}
use Prim.Native.Nat.{ℕ, suc, ◌+◌, ◌*◌, ◌≤◌, ◌<◌}
use mathlib.Core.Path.{◌≡◌, refl, sym, ap, ◌∙◌}
use Rattle.overview.proofs.pairs.put_group.Goals as goal
use Rattle.overview.proofs.pairs.put_group.Goals.{After-slice_known-2-1}

-- the first block has put the pairs of its frames
begun : (c : After-slice_known-2-1)
    → c.put_channels.new.buf
    ≡ splice c.args.buf.now c.args.at (channel_pairs c.args.track c.args.buf.now c.args.from c.min-last.result c.args.track.channels)
begun c =
    let a = c.args in
    let bytes : (i : ℕ) → get_or a.buf.now i 0 < 256 = λ i. (c.slice_known-1.given i).fits in
    c.put_channels.ensures ∙ ap (splice a.buf.now a.at) (first_block a.track a.buf.now bytes a.at a.from c.min-last.result a.track.channels)

pub loop-last-init : goal.loop-last-init
loop-last-init c =
    let a = c.args in
    let last = c.min-last.result in
    let f = c.min-last.ensures in
    let ends = ends-before a.track (a.from + last + 1) (a.from + a.more + 1) (omega arith) in
    (omega arith, refl, begun (goal.at.loop-last-init c).After-slice_known-2-1 ∙ sym (put-over a.track a.buf.now c.put_channels.new.buf a.from last last a.at (omega (arith, ends, c.requires.1)) c.requires.2 (begun (goal.at.loop-last-init c).After-slice_known-2-1)))

pub loop-last-preserved : goal.loop-last-preserved
loop-last-preserved c =
    let a = c.args in
    let start = c.put_channels.new.buf in
    let bytes : (i : ℕ) → get_or start i 0 < 256 = λ i. (c.slice_known-2-1.given i).fits in
    let n = c.min-rest.result in
    let f = c.min-rest.ensures in
    let ends : end_of a.track (a.from + (suc c.loop-last.last + n) + 1) ≤ a.at = omega (arith, ends-before a.track (a.from + (suc c.loop-last.last + n) + 1) (a.from + a.more + 1) (omega arith), c.requires.1) in
    let room : a.at + 4 * a.track.channels ≤ length start = omega (arith, c.put_channels.auto) in
    let next : c.put_channels-in-loop-last.new.buf ≡ splice c.loop-last.buf a.at (block_pairs false a.track c.loop-last.buf a.at (a.from + (c.loop-last.last + 1)) n a.track.channels) =
    c.put_channels-in-loop-last.ensures in
    let put = rw add-one at next in
    let done : c.put_channels-in-loop-last.new.buf ≡ splice start a.at (channel_pairs a.track start a.from (c.loop-last.last + 1 + n) a.track.channels) =
    rw add-one (block-put a.track start c.loop-last.buf bytes a.from c.loop-last.last n a.at ends room c.loop-last.invariant.2 put) in (
      omega arith,
      omega (arith, c.put_channels-in-loop-last.auto),
      done,
    )

pub returns : goal.returns
returns c =
    let a = c.args in
    let buf = c.put_channels.new.buf in
    let all : c.loop-last.last ≡ a.more = omega arith in
    c.loop-last.invariant.2 ∙ ap (λ (n : ℕ). splice buf a.at (channel_pairs a.track buf a.from n a.track.channels)) all
    ∙ put-over a.track a.buf.now buf a.from c.min-last.result a.more a.at c.requires.1 c.requires.2 (begun (goal.at.returns c).After-slice_known-2-1)
