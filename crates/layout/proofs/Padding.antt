-- Zeros after labels.
use mathlib.Core.Path.{◌≡◌, ap, sym, ◌∙◌}
use Prim.Native.Nat.{ℕ, zero, suc, ◌-◌}
use native.Mathlib.Nat.{sub-zero, zero-sub, suc-sub-suc}
use lib.ListN.{drop, replicate}

pub drop-zeros : (n m : ℕ) → drop n (replicate {A = ℕ} m 0) ≡ replicate (m - n) 0
drop-zeros zero m = ap (λ (k : ℕ). replicate k 0) (sym (sub-zero m))
drop-zeros (suc n) zero = ap (λ (k : ℕ). replicate k 0) (sym (zero-sub (suc n)))
drop-zeros (suc n) (suc m) = drop-zeros n m ∙ ap (λ (k : ℕ). replicate k 0) (sym (suc-sub-suc m n))
