-- Rows that never answer may be left out of the search, and all others answer their own order.
use mathlib.Core.Path.{◌≡◌, refl, sym, ◌∙◌, ap}
use mathlib.Core.Bool.{Bool, true, false, cond, not, ◌||◌, true≢false}
use mathlib.Core.List.{List, [], ◌∷◌}
use mathlib.Core.Logic.{◌⊎◌, inl, inr}
use Prim.Native.Nat.{ℕ, suc, ◌<◌, ◌≤◌}
use native.Mathlib.Omega.{arith}
use lib.ListN.{length, get_or, drop}
use lib.Seq.{drop-cons}
use lib.Dec.{eqb, leb}
use borrow.Author.Tests.{eqb-true, leb-true}
use Rattle.byte_order.specs.Same.{exactly}
use Rattle.byte_order.proofs.Same.{exactly-eq, exactly-no}
use Rattle.layout.specs.Known.{among}
use Rattle.layout.specs.Table.{StandardLayout, standard_layouts, beyond, row_places, row_order}
use Rattle.layout.specs.Search.{first_row, layout_for, has_tag}
use Rattle.layout.specs.Searched.{silent, unless, without, searched, searched_at, rows_before, NeverAnswered, OthersAnswer, SearchedEnough}
use Rattle.layout.specs.declared.ChannelLayout.{ChannelLayout}
use Rattle.layout.specs.declared.ChannelLayout.TheVariants.{NoLayout, Tagged, Described}
use Rattle.layout.proofs.Every.{every, each, both}
use Rattle.layout.proofs.Rows.{order-kept}
use Rattle.layout.proofs.Tags.{tag_passes, first_passes}

is-tag : (l : ChannelLayout) (t : ℕ) → has_tag l t ≡ true → l ≡ Tagged t
is-tag NoLayout t e = absurd (true≢false (sym e))
is-tag (Tagged u) t e = ap Tagged (eqb-true u t e)
is-tag Described t e = absurd (true≢false (sym e))

-- two answers with one tag
abbrev same_tags : ChannelLayout → ChannelLayout → Bool
same_tags NoLayout l = false
same_tags (Tagged t) l = has_tag l t
same_tags Described l = false

same_tag : (k l : ChannelLayout) → same_tags k l ≡ true → k ≡ l
same_tag NoLayout l e = absurd (true≢false (sym e))
same_tag (Tagged t) l e = sym (is-tag l t e)
same_tag Described l e = absurd (true≢false (sym e))

-- a silent row's own labels get the same tag with it and without it
abbrev spared : StandardLayout → Bool
spared r = not (among r.tag silent) || same_tags (first_row standard_layouts r.order) (first_row searched r.order)

all-spared : every spared standard_layouts ≡ true
unfolding searched standard_layouts
all-spared = refl

-- so labels that are a silent row's are answered alike, and for others the silent rows may be left out
left_out : (ls : List ℕ) (rs : List StandardLayout) → every spared rs ≡ true
    → (first_row standard_layouts ls ≡ first_row searched ls) ⊎ (first_row rs ls ≡ first_row (without silent rs) ls)
left_out ls [] h = inr refl
left_out ls (r ∷ rs) h =
    let d = both (spared r) (every spared rs) h in
    go (left_out ls rs d.1) (among r.tag silent) (exactly r.order ls) refl d.0
  where
    go : (first_row standard_layouts ls ≡ first_row searched ls) ⊎ (first_row rs ls ≡ first_row (without silent rs) ls)
        → (s m : Bool) → exactly r.order ls ≡ m
        → not s || same_tags (first_row standard_layouts r.order) (first_row searched r.order) ≡ true
        → (first_row standard_layouts ls ≡ first_row searched ls) ⊎ (cond m (Tagged r.tag) (first_row rs ls) ≡ first_row (unless s r (without silent rs)) ls)
    go (inl e) s m x t = inl e
    go (inr e) true true x t = inl (rw (← exactly-eq r.order ls x) (same_tag (first_row standard_layouts r.order) (first_row searched r.order) t))
    go (inr e) true false x t = inr e
    go (inr e) false m x t = inr (rw (x, e))

pub searched-enough : SearchedEnough
unfolding layout_for searched
searched-enough ls = go (left_out ls standard_layouts all-spared)
  where
    go : (first_row standard_layouts ls ≡ first_row searched ls) ⊎ (first_row standard_layouts ls ≡ first_row searched ls) → first_row standard_layouts ls ≡ first_row searched ls
    go (inl e) = e
    go (inr e) = e

-- the tag of an answer is not silent
abbrev spoken : ℕ → Bool
spoken t = not (among t silent)

all-speak : every (λ r. spoken r.tag) searched ≡ true
unfolding searched standard_layouts
all-speak = refl

not-told : (l : ChannelLayout) (t : ℕ) → tag_passes spoken l ≡ true → among t silent ≡ true → has_tag l t ≡ false
not-told NoLayout t s a = refl
not-told (Tagged u) t s a = go (eqb u t) refl
  where
    go : (b : Bool) → eqb u t ≡ b → b ≡ false
    go true e = absurd (true≢false (sym s ∙ ap spoken (eqb-true u t e) ∙ ap not a))
    go false e = refl
not-told Described t s a = refl

pub never-answered : NeverAnswered
never-answered ls t a = not-told (layout_for ls) t (ap (tag_passes spoken) (searched-enough ls) ∙ first_passes spoken searched ls all-speak) a

-- each searched row answers its own order
abbrev own : StandardLayout → Bool
own r = has_tag (layout_for r.order) r.tag

all_own : every own searched ≡ true
unfolding searched standard_layouts layout_for
all_own = refl

pub «40-rows» : length searched ≡ 40
unfolding searched standard_layouts
«40-rows» = refl

pub others-answer : OthersAnswer
others-answer =
    record {
      forty = «40-rows»;
      own = λ i h. is-tag (layout_for (get_or searched i beyond).order) (get_or searched i beyond).tag (each own searched i all_own (rw «40-rows» h));
    }

-- a searched row has places for all of its labels
abbrev fitting : StandardLayout → Bool
fitting r = leb (length r.order) row_places

all-fit : every fitting searched ≡ true
unfolding searched standard_layouts
all-fit = refl

pub searched-fits : (i : ℕ) → i < 40 → (searched_at i).count ≤ row_places
searched-fits i h = leb-true (length (get_or searched i beyond).order) row_places (each fitting searched i all-fit (rw «40-rows» h))

-- one turn of the search
pub next_row : (i : ℕ) (ls : List ℕ) → i < 40
    → rows_before (drop i searched) ls ≡ cond (exactly (row_order (searched_at i)) ls) 0 (suc (rows_before (drop (suc i) searched) ls))
next_row i ls h = rw (drop-cons searched i beyond (rw «40-rows» h), order-kept (get_or searched i beyond))

-- a row with another count does not answer
pub other-count : (i : ℕ) (ls : List ℕ) → ((searched_at i).count ≡ length ls → ⊥) → exactly (row_order (searched_at i)) ls ≡ false
other-count i ls other = let r = get_or searched i beyond in rw (order-kept r, exactly-no r.order ls (λ e. other (ap length e)))

-- the answer, by how many rows come before it
pub found : (rs : List StandardLayout) (ls : List ℕ) → rows_before rs ls < length rs → first_row rs ls ≡ Tagged (get_or rs (rows_before rs ls) beyond).tag
found [] ls h = absurd (let z : ⊥ = omega arith in z)
found (r ∷ rs) ls h = go (exactly r.order ls) h (found rs ls)
  where
    go : (m : Bool) → cond m 0 (suc (rows_before rs ls)) < suc (length rs) → (rows_before rs ls < length rs → first_row rs ls ≡ Tagged (get_or rs (rows_before rs ls) beyond).tag)
        → cond m (Tagged r.tag) (first_row rs ls) ≡ Tagged (get_or (r ∷ rs) (cond m 0 (suc (rows_before rs ls))) beyond).tag
    go true k later = refl
    go false k later = later (omega arith)

pub not_found : (rs : List StandardLayout) (ls : List ℕ) → length rs ≤ rows_before rs ls → first_row rs ls ≡ Described
not_found [] ls h = refl
not_found (r ∷ rs) ls h = go (exactly r.order ls) h (not_found rs ls)
  where
    go : (m : Bool) → suc (length rs) ≤ cond m 0 (suc (rows_before rs ls)) → (length rs ≤ rows_before rs ls → first_row rs ls ≡ Described)
        → cond m (Tagged r.tag) (first_row rs ls) ≡ Described
    go true k later = absurd (let z : ⊥ = omega arith in z)
    go false k later = later (omega arith)
