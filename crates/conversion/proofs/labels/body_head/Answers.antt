use mathlib.Core.Path.{sym, ap, ◌∙◌}
use mathlib.Core.List.{List}
use Prim.Native.Nat.{ℕ}
use native.Mathlib.Omega.{arith}
use lib.ListN.{length-take}
use Rattle.layout.specs.Order.{order_for, order_places}
use Rattle.wave.specs.Making.{made_head}
use Rattle.conversion.specs.Said.{described}
use Rattle.conversion.proofs.Orders.{count_fits, order-said, described-said, described-fit}
use Rattle.conversion.proofs.labels.body_head.Goals as goal

pub described_head-requires : goal.described_head-requires
described_head-requires c =
    let a = c.args in
    c.be_u32.ensures ∙ described-fit a.body.now a.format.channels_per_frame c.requires (sym c.be_u32-tag.ensures ∙ c.if-tag-eq-USE_CHANNEL_DESCRIPTIONS.true)

pub returns-then-tag-eq-USE_CHANNEL_DESCRIPTIONS : goal.returns-then-tag-eq-USE_CHANNEL_DESCRIPTIONS
returns-then-tag-eq-USE_CHANNEL_DESCRIPTIONS c =
    let a = c.args in
    c.described_head.ensures
    ∙ ap (λ (ls : List ℕ). made_head a.format ls a.payload) (ap (described a.body.now) c.be_u32.ensures ∙ described-said a.body.now (sym c.be_u32-tag.ensures ∙ c.if-tag-eq-USE_CHANNEL_DESCRIPTIONS.true))

pub slice_bounds-wave_head-end : goal.slice_bounds-wave_head-end
slice_bounds-wave_head-end c = simp length-take (omega (arith, count_fits (order_for c.be_u32-tag.result) c.order_for-order.result c.order_for-order.ensures))

pub returns : goal.returns
returns c =
    let a = c.args in
    let order = c.order_for-order.ensures ∙ ap (λ (t : ℕ). order_places (order_for t)) c.be_u32-tag.ensures in
    c.wave_head.ensures ∙ ap (λ (ls : List ℕ). made_head a.format ls a.payload) (order-said a.body.now c.order_for-order.result order (λ e. c.if-tag-eq-USE_CHANNEL_DESCRIPTIONS.false (c.be_u32-tag.ensures ∙ e)))
