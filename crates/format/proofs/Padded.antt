-- A body that is stored into 32 zeros is read as it stands: missing bytes count as 0 in both.
use mathlib.Core.Path.{◌≡◌, refl, sym, ◌∙◌, ap}
use mathlib.Core.Bool.{Bool, true, false}
use mathlib.Core.List.{List}
use Prim.Native.Nat.{ℕ, zero, suc, ◌+◌, ◌<◌, ◌≤◌, min}
use native.Mathlib.Nat.{zero-add}
use native.Mathlib.Omega.{arith}
use lib.Dec.{ltb}
use lib.ListN.{length, get_or, replicate, get_or-replicate, get_or-eq_default}
use borrow.Author.Tests.{ltb-true, ltb-false, le-leb}
use Rattle.byte_order.specs.Big.{big_at}
use Rattle.byte_order.specs.Splice.{store_count, store_first}
use Rattle.byte_order.proofs.Places.{store-there, store-after}
use Rattle.format.specs.Desc.{desc_size, format_at}
use Rattle.format.specs.FormatAnswers.{desc_read}

module _ (body : List ℕ) where
  abbrev zeros : List ℕ
  zeros = replicate desc_size 0

  abbrev padded : List ℕ
  padded = store_first desc_size body 0 zeros

  stored : store_count desc_size (length body) 0 desc_size ≡ min desc_size (length body)
  stored = rw (le-leb (0 + min desc_size (length body)) desc_size (omega arith))

  same : (i : ℕ) → i < desc_size → get_or padded i 0 ≡ get_or body i 0
  same i h = go (ltb i (length body)) refl
    where
      go : (b : Bool) → ltb i (length body) ≡ b → get_or padded i 0 ≡ get_or body i 0
      go true e = ap (λ (j : ℕ). get_or padded j 0) (sym (zero-add i)) ∙ store-there desc_size body 0 zeros i 0 (omega (arith, stored, ltb-true i (length body) e))
      go false e =
          let past = ltb-false i (length body) e in
          store-after desc_size body 0 zeros i 0 (omega (arith, stored))
          ∙ get_or-replicate desc_size i 0 0 h
          ∙ sym (get_or-eq_default body 0 past)

  big-same : (w p : ℕ) → p + w ≤ desc_size → big_at w padded p ≡ big_at w body p
  big-same zero p h = refl
  big-same (suc w) p h = rw (big-same w p (omega arith), same (p + w) (omega arith))

  pub padded-read : desc_read padded ≡ desc_read body
  unfolding format_at
  padded-read =
      rw (
        big-same 8 0 (omega arith),
        big-same 4 8 (omega arith),
        big-same 4 12 (omega arith),
        big-same 4 16 (omega arith),
        big-same 4 20 (omega arith),
        big-same 4 24 (omega arith),
        big-same 4 28 (omega arith),
      )
