-- The rules of the table, each by one test that is computed over all 43 rows.
use mathlib.Core.Path.{◌≡◌, refl, ap}
use mathlib.Core.Bool.{Bool, true, false, ◌&&◌}
use mathlib.Core.List.{List}
use mathlib.Core.Option.{Option, none, some}
use Prim.Native.Nat.{ℕ}
use lib.Dec.{eqb, leb}
use lib.ListN.{length, get_or}
use borrow.Author.Tests.{eqb-true, leb-true}
use Rattle.byte_order.specs.Same.{exactly}
use Rattle.byte_order.proofs.Same.{exactly-eq}
use Rattle.layout.specs.Tags as tag
use Rattle.layout.specs.Known.{known_label, known_tag, are_known}
use Rattle.layout.specs.Table.{StandardLayout, standard_layouts, beyond, row_places}
use Rattle.layout.specs.Search.{layout_for}
use Rattle.layout.specs.Order.{order_for}
use Rattle.layout.specs.Claims.{RowRules, EachRow, ThreeShadowed}
use Rattle.layout.proofs.Every.{every, each, both}

pub is_order : Option (List ℕ) → List ℕ → Bool
is_order none ls = false
is_order (some o) ls = exactly o ls

is-order : (o : Option (List ℕ)) (ls : List ℕ) → is_order o ls ≡ true → o ≡ some ls
unfolding is_order
is-order none ls h = cc
is-order (some o) ls h = ap some (exactly-eq o ls h)

abbrev pub rules_test : StandardLayout → Bool
rules_test r =
    known_tag r.tag && (are_known r.order && (eqb (length r.order) (tag.channels r.tag) && (leb (length r.order) row_places && is_order (order_for r.tag) r.order)))

pub rules : (r : StandardLayout) → rules_test r ≡ true → RowRules r
rules r h =
    let h1 = both (known_tag r.tag) _ h in
    let h2 = both (are_known r.order) _ h1.1 in
    let h3 = both (eqb (length r.order) (tag.channels r.tag)) _ h2.1 in
    let h4 = both (leb (length r.order) row_places) _ h3.1 in
    record {
      tag-known = h1.0;
      labels-known = h2.0;
      counted = eqb-true _ _ h3.0;
      fits = leb-true _ _ h4.0;
      led-back = is-order (order_for r.tag) r.order h4.1;
    }

pub table-rules : every rules_test standard_layouts ≡ true
unfolding standard_layouts known_label known_tag order_for is_order
table-rules = refl

pub each_row : EachRow
each_row i h = rules (get_or standard_layouts i beyond) (each rules_test standard_layouts i table-rules h)

pub three-shadowed : ThreeShadowed
unfolding standard_layouts layout_for
three-shadowed = refl
