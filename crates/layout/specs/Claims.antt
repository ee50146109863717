-- What is to be proved of the table. Each claim is a type; its proof stands in proofs/.
use Rattle.std.specs.Prelude.{ℕ, ◌<◌, ◌≤◌, ◌≡◌, true, cond, List, [], ◌∷◌, length, get_or}
use Rattle.std.proofs.Math.Option.{some}
use Rattle.layout.specs.Tags as tag
use Rattle.layout.specs.Known.{known_tag, are_known}
use Rattle.layout.specs.Table.{StandardLayout, standard_layouts, beyond, row_places}
use Rattle.layout.specs.Search.{layout_for, has_tag}
use Rattle.layout.specs.Order.{order_for}
use Rattle.layout.specs.Searched.{silent}

-- a row's tag and labels are among the 50 and the 47; it has as many labels as its tag tells, of which the code's row has room for
-- all; and its tag leads back to its own order
pub record RowRules (r : StandardLayout) : Type 0 where
  pub tag-known : known_tag r.tag ≡ true
  pub labels-known : are_known r.order ≡ true
  pub counted : length r.order ≡ tag.channels r.tag
  pub fits : length r.order ≤ row_places
  pub led-back : order_for r.tag ≡ some r.order

abbrev pub EachRow : Type 0
EachRow = (i : ℕ) → i < length standard_layouts → RowRules (get_or standard_layouts i beyond)

-- of some rows the tags that their own labels do not get, because an earlier row has the same
abbrev pub shadowed : List StandardLayout → List ℕ
shadowed [] = []
shadowed (r ∷ rs) = cond (has_tag (layout_for r.order) r.tag) (shadowed rs) (r.tag ∷ shadowed rs)

-- no more and no fewer than those that are left out of the search
abbrev pub ThreeShadowed : Type 0
ThreeShadowed = shadowed standard_layouts ≡ silent
