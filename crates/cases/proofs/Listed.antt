-- A loop over a list of four-byte numbers: what it has done is the list up to there.
use Rattle.std.proofs.Common.{◌≡◌, ℕ, ◌+◌, ◌*◌, ◌<◌, List, [], length, take, slice_set, refl, sym, ◌∙◌, arith, add-one}
use Rattle.std.proofs.Math.Seq.{take-suc-set, take_all}
use Rattle.byte_order.specs.Big.{big_at}
use Rattle.cases.specs.Number.{further}
use Rattle.cases.specs.List.{numbers_at}

module _ {A : Type 0} (f : ℕ → A) (s : List ℕ) (p : ℕ) where
  pub none_yet : [] ≡ numbers_at f 0 s p
  unfolding numbers_at
  none_yet = refl

  pub one_more : (l : List A) (i : ℕ) (v : A) → i < length l → take i l ≡ numbers_at f i s p → v ≡ f (big_at 4 s (further p (4 * i))) → take (i + 1) (slice_set l i v) ≡ numbers_at f (i + 1) s p
  unfolding numbers_at
  one_more l i v h e w = rw add-one (take-suc-set l i v h ∙ rw (e, w))

  pub all_done : (l : List A) (i k : ℕ) → i ≡ k → length l ≡ k → take i l ≡ numbers_at f i s p → l ≡ numbers_at f k s p
  all_done l i k e n h = sym (take_all k l (omega arith)) ∙ rw (← e) h
