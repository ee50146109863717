-- The rows that are searched, and where they stand in the whole table: between the three that are left out they follow one another as there.
use mathlib.Core.Path.{◌≡◌, ap, sym, ◌∙◌}
use mathlib.Core.List.{List}
use Prim.Native.Nat.{ℕ, ◌+◌, ◌-◌, ◌<◌, ◌≤◌}
use native.Mathlib.Omega.{arith}
use lib.ListN.{get_or, take, drop, get_or-eq_default}
use lib.Seq.{get_or-take, get_or-drop}
use Rattle.layout.specs.Table.{StandardLayout, standard_layouts, beyond, row, row_at}
use Rattle.layout.specs.Searched.{searched, searched_at}
use Rattle.layout.proofs.Searched.{«40-rows»}

pub searched-after : (i : ℕ) → 40 ≤ i → row beyond ≡ searched_at i
searched-after i h = ap row (sym (get_or-eq_default searched beyond (rw «40-rows» h)))

-- neither before this place nor at it
pub past : (n : ℕ) {i : ℕ} → n ≤ i → (i ≡ n → ⊥) → n < i
past n h k = omega (arith, k)

-- a row with k of the three before it, at or after place a of those that are searched
module _ (a k i : ℕ) (from : a + k ≤ i) where
  same_row : get_or searched (a + (i - (a + k))) beyond ≡ get_or standard_layouts (a + k + (i - (a + k))) beyond → searched_at (i - k) ≡ row_at i
  same_row e =
      let m : i - k ≡ a + (i - (a + k)) = omega arith in
      let n : a + k + (i - (a + k)) ≡ i = omega arith in
      ap searched_at m ∙ ap row e ∙ ap row_at n

  -- in a run of n rows
  pub in-run : (n : ℕ) → take n (drop a searched) ≡ take n (drop (a + k) standard_layouts) → i < a + k + n → searched_at (i - k) ≡ row_at i
  in-run n e h =
      let j = i - (a + k) in
      let l : j < n = omega arith in
      same_row (sym (get_or-take n (drop a searched) j beyond l ∙ get_or-drop a searched j beyond) ∙ ap (λ (r : List StandardLayout). get_or r j beyond) e ∙ get_or-take n (drop (a + k) standard_layouts) j beyond l ∙ get_or-drop (a + k) standard_layouts j beyond)

  -- in the last run, and after it
  pub in_rest : drop a searched ≡ drop (a + k) standard_layouts → searched_at (i - k) ≡ row_at i
  in_rest e =
      let j = i - (a + k) in
      same_row (sym (get_or-drop a searched j beyond) ∙ ap (λ (r : List StandardLayout). get_or r j beyond) e ∙ get_or-drop (a + k) standard_layouts j beyond)
