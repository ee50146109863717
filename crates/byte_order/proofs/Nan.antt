-- `x != x` is the test for a NaN, and of a pattern the test is one of numbers.
use mathlib.Core.Path.{◌≡◌, refl, sym, ◌∙◌}
use mathlib.Core.Bool.{true, false}
use Prim.Native.Nat.{ℕ, ◌*◌, ◌%◌}
use lib.Dec.{ltb, eqb, eqb_refl}
use lib.Ieee.{Float, nan, inf, fin, up, down, ne, is_nan, nan_bits, of_bits, binary64}
use lib.Ieee.Bits.{is_true, nan_bits_is, nan_bits_above}

pub ne-self : (x : Float) → ne x x ≡ is_nan x
unfolding ne is_nan
ne-self nan = refl
ne-self (inf true) = refl
ne-self (inf false) = refl
ne-self (fin true m e) = rw (is_true (eqb (m * up e * down e) (m * up e * down e)) (eqb_refl (m * up e * down e)))
ne-self (fin false m e) = rw (is_true (eqb (m * up e * down e) (m * up e * down e)) (eqb_refl (m * up e * down e)))

pub nan_pattern : (n : ℕ) → nan_bits binary64 n ≡ ltb 0x7FF0_0000_0000_0000 (n % 0x8000_0000_0000_0000)
nan_pattern n = nan_bits_above binary64 n

pub nan-test : (n : ℕ) → is_nan (of_bits binary64 n) ≡ ltb 0x7FF0_0000_0000_0000 (n % 0x8000_0000_0000_0000)
nan-test n = sym (nan_bits_is binary64 n) ∙ nan_pattern n
