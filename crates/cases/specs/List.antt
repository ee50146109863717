-- Lists of four-byte numbers in a case (compare/README.md, The fixed sample).
use Rattle.std.specs.Prelude.{ℕ, zero, suc, ◌-◌, ◌*◌, ◌^◌, cond, List, [], ◌∷◌, ◌++◌, ltb, ℤ, pos, negsuc}
use Rattle.byte_order.specs.Big.{big_at}
use Rattle.cases.specs.Number.{further}

module _ {A : Type 0} (f : ℕ → A) where
  -- f of each of the k numbers from position p on
  unfoldable pub numbers_at : ℕ → List ℕ → ℕ → List A
  numbers_at zero s p = []
  numbers_at (suc k) s p = numbers_at k s p ++ (f (big_at 4 s (further p (4 * k))) ∷ [])

-- the number whose 32 bits of two's complement these are. (`negsuc n` is -(n + 1).)
abbrev pub signed32 : ℕ → ℤ
signed32 u = cond (ltb u (2 ^ 31)) (pos u) (negsuc (2 ^ 32 - 1 - u))

abbrev pub labels_at : List ℕ → ℕ → List ℕ
labels_at s p = numbers_at (λ u. u) 256 s p

abbrev pub samples_at : List ℕ → ℕ → List ℤ
samples_at s p = numbers_at signed32 16 s p
