-- The way from a tag to its order: the three rows that are not searched by their tags, and for any other tag the searched ones are enough.
use mathlib.Core.Path.{◌≡◌, refl, sym, ap, ◌∙◌}
use mathlib.Core.Bool.{Bool, true, false, cond, true≢false}
use mathlib.Core.List.{List, [], ◌∷◌}
use mathlib.Core.Option.{some}
use Prim.Native.Nat.{ℕ, suc, ◌<◌}
use lib.ListN.{get_or, drop}
use lib.Dec.{eqb}
use lib.Seq.{drop-cons}
use borrow.Author.Tests.{eqb-true}
use Rattle.layout.specs.Known.{among}
use Rattle.layout.specs.Table.{StandardLayout, standard_layouts, beyond}
use Rattle.layout.specs.Order.{order_in, order_for, order_places, row_named}
use Rattle.layout.specs.Searched.{silent, unless, without, searched, searched_at}
use Rattle.layout.specs.declared.Row.{Row}
use Rattle.layout.proofs.Searched.{«40-rows»}

-- rows of other tags may be left out
left_out : (tag : ℕ) (ts : List ℕ) (rs : List StandardLayout) → among tag ts ≡ false → order_in rs tag ≡ order_in (without ts rs) tag
left_out tag ts [] h = refl
left_out tag ts (r ∷ rs) h = go (among r.tag ts) (eqb r.tag tag) refl refl (left_out tag ts rs h)
  where
    go : (s e : Bool) → among r.tag ts ≡ s → eqb r.tag tag ≡ e → order_in rs tag ≡ order_in (without ts rs) tag
        → cond e (some r.order) (order_in rs tag) ≡ order_in (unless s r (without ts rs)) tag
    go true true a b i = absurd (true≢false (sym a ∙ ap (λ (t : ℕ). among t ts) (eqb-true r.tag tag b) ∙ h))
    go true false a b i = i
    go false e a b i = rw (b, i)

pub order-searched : (tag : ℕ) → among tag silent ≡ false → order_for tag ≡ order_in searched tag
unfolding order_for searched
order-searched tag h = left_out tag silent standard_layouts h

-- one turn
pub next-order : (i tag : ℕ) (r : Row) → r ≡ searched_at i → i < 40
    → order_in (drop i searched) tag ≡ cond (eqb r.tag tag) (some (get_or searched i beyond).order) (order_in (drop (suc i) searched) tag)
next-order i tag r e h = rw (drop-cons searched i beyond (rw «40-rows» h), e)

-- the order of a row, as the code holds it
pub named-row : (i : ℕ) (r : Row) → r ≡ searched_at i → row_named r ≡ order_places (some (get_or searched i beyond).order)
named-row i r e = rw e
