-- A number of i bytes and one byte more is below 256 ^ (i + 1), which is at most 2 ^ 64 where i is below 8.
use Prim.Native.Nat.{ℕ, ◌+◌, ◌*◌, ◌^◌, ◌<◌, ◌≤◌}
use native.Mathlib.Nat.{pow-suc, pow-le-pow_right}
use native.Mathlib.Numerals.{add-one}
use native.Mathlib.Omega.{arith}
use lib.Dec.{lit<}

pub step : {v b : ℕ} (i : ℕ) → v < 256 ^ i → b < 256 → v * 256 + b < 256 ^ (i + 1)
step i hv hb = rw (add-one, pow-suc) (omega arith)

pub word : (i : ℕ) → i ≤ 8 → 256 ^ i ≤ 2 ^ 64
word i h = pow-le-pow_right (lit< {n = 256} tt) h
