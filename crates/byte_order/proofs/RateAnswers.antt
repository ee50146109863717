-- What the answer for 64 bits tells of them, and what the answer for a rate tells of it.
use mathlib.Core.Path.{◌≡◌}
use mathlib.Core.Bool.{true, false}
use Prim.Native.Nat.{ℕ}
use lib.Ieee.{Float}
use Rattle.std.proofs.Common.{Some, None}
use Rattle.byte_order.specs.Rate.{rate_of, bits_of_rate, not_aNumber}
use Rattle.byte_order.specs.RateAnswers.{rate_from, bits_from}
use Rattle.byte_order.proofs.Choice.{refused, given}

pub rate-refused : (n : ℕ) → rate_from n ≡ None → not_aNumber (rate_of n) ≡ true
rate-refused n e = refused None Some (λ v e. cc) (not_aNumber (rate_of n)) (rate_of n) e

pub rate-given : (n : ℕ) (x : Float) → rate_from n ≡ Some x → (not_aNumber (rate_of n) ≡ false) × (rate_of n ≡ x)
rate-given n x e = given None Some (λ v e. cc) (λ v w e. cc) (not_aNumber (rate_of n)) (rate_of n) x e

pub bits-refused : (x : Float) → bits_from x ≡ None → not_aNumber x ≡ true
bits-refused x e = refused None Some (λ v e. cc) (not_aNumber x) (bits_of_rate x) e

pub bits-given : (x : Float) (n : ℕ) → bits_from x ≡ Some n → (not_aNumber x ≡ false) × (bits_of_rate x ≡ n)
bits-given x n e = given None Some (λ v e. cc) (λ v w e. cc) (not_aNumber x) (bits_of_rate x) n e
