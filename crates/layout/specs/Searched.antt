-- 02, T-07: the rows that are searched. Three of the 43 never answer, since an earlier row has the same labels.
use Rattle.std.specs.Prelude.{ℕ, suc, ◌<◌, ◌≡◌, Bool, true, false, cond, List, [], ◌∷◌, length, get_or}
use Rattle.byte_order.specs.Same.{exactly}
use Rattle.layout.specs.Tags as tag
use Rattle.layout.specs.Known.{among}
use Rattle.layout.specs.Table.{StandardLayout, standard_layouts, beyond, row}
use Rattle.layout.specs.Search.{layout_for, first_row, has_tag}
use Rattle.layout.specs.declared.Row.{Row}
use Rattle.layout.specs.declared.ChannelLayout.TheVariants.{Tagged}

-- Pentagonal, Quadraphonic and Hexagonal have their labels, and come first
abbrev pub silent : List ℕ
silent = tag.MPEG_5_0_B ∷ tag.ITU_2_2 ∷ tag.DVD_20 ∷ []

-- a row before others, unless it is to be left out
abbrev pub unless : Bool → StandardLayout → List StandardLayout → List StandardLayout
unless true r rs = rs
unless false r rs = r ∷ rs

-- some rows without those of these tags
abbrev pub without : List ℕ → List StandardLayout → List StandardLayout
without ts [] = []
without ts (r ∷ rs) = unless (among r.tag ts) r (without ts rs)

unfoldable pub searched : List StandardLayout
searched = without silent standard_layouts

-- how many of some rows come before the first with exactly these labels: all of them where there is none. So many a search looks at in vain
abbrev pub rows_before : List StandardLayout → List ℕ → ℕ
rows_before [] ls = 0
rows_before (r ∷ rs) ls = cond (exactly r.order ls) 0 (suc (rows_before rs ls))

-- the row at a place among them, as the code holds it
abbrev pub searched_at : ℕ → Row
searched_at i = row (get_or searched i beyond)

-- no list of labels is answered with one of the three
abbrev pub NeverAnswered : Type 0
NeverAnswered = (ls : List ℕ) (t : ℕ) → among t silent ≡ true → has_tag (layout_for ls) t ≡ false

-- each of the other 40 rows answers its own order
pub record OthersAnswer : Type 0 where
  pub forty : length searched ≡ 40
  pub own : (i : ℕ) → i < 40 → layout_for (get_or searched i beyond).order ≡ Tagged (get_or searched i beyond).tag

-- so the search need not look at the three
abbrev pub SearchedEnough : Type 0
SearchedEnough = (ls : List ℕ) → layout_for ls ≡ first_row searched ls
