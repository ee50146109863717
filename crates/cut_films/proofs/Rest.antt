-- Two numbers that differ by a multiple of m leave the same rest.
use mathlib.Core.Path.{◌≡◌, sym}
use Prim.Native.Nat.{ℕ, ◌+◌, ◌*◌, ◌%◌}
use native.Mathlib.Nat.{add-mul-mod_self_right}

pub same_rest : (x y q m : ℕ) → y ≡ x + q * m → x % m ≡ y % m
same_rest x y q m e = rw e (sym (add-mul-mod_self_right x q m))
