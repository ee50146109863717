-- The weighed sum of one byte more: every byte before it has one more after itself.
use mathlib.Core.Path.{◌≡◌, sym, ap, ◌∙◌}
use mathlib.Core.List.{List, [], ◌∷◌, ◌++◌}
use Prim.Native.Nat.{ℕ, suc, ◌+◌, ◌*◌, ◌/◌, ◌%◌, ◌^◌, ◌≤◌, ◌<◌}
use native.Mathlib.Nat.{pow-suc, mul_assoc}
use native.Mathlib.Omega.{arith}
use native.Mathlib.Numerals.{add-one}
use lib.ListN.{length, take, get_or, length-append}
use lib.Seq.{take-suc, take_all}
use Rattle.cut_films.specs.Digest.{weighed, digest_of}
use Rattle.cut_films.proofs.Rest.{same_rest}

together : (x y v w b : ℕ) → y ≡ x * 1000003 → v ≡ w * 1000003 + b → y + v ≡ (x + w) * 1000003 + b
together x y v w b p q = omega arith

after : (s : List ℕ) (b : ℕ) → weighed (s ++ (b ∷ [])) ≡ weighed s * 1000003 + b
unfolding weighed
after [] b = omega arith
after (a ∷ s) b =
    let n : length (s ++ (b ∷ [])) ≡ suc (length s) = simp length-append (omega arith) in
    let p : a * 1000003 ^ length (s ++ (b ∷ [])) ≡ a * 1000003 ^ length s * 1000003 = rw (n, pow-suc) (sym (mul_assoc a (1000003 ^ length s) 1000003)) in
    together (a * 1000003 ^ length s) _ _ (weighed s) b p (after s b)

-- only the low bits of the sum so far count
low : (d w b : ℕ) → d % 2 ^ 32 ≡ w % 2 ^ 32 → (d % 2 ^ 32 * 1000003 + b) % 2 ^ 32 ≡ (w * 1000003 + b) % 2 ^ 32
low d w b e = rw e (same_rest (w % 2 ^ 32 * 1000003 + b) (w * 1000003 + b) (w / 2 ^ 32 * 1000003) (2 ^ 32) (omega arith))

-- a turn of the digest's loop
pub one_more : (s : List ℕ) (i d : ℕ) → i < length s → d % 2 ^ 32 ≡ weighed (take i s) % 2 ^ 32 → (d % 2 ^ 32 * 1000003 + get_or s i 0) % 2 ^ 32 ≡ weighed (take (i + 1) s) % 2 ^ 32
one_more s i d h e = low d (weighed (take i s)) (get_or s i 0) e ∙ ap (λ (w : ℕ). w % 2 ^ 32) (sym (rw (add-one, take-suc s i 0 h) (after (take i s) (get_or s i 0))))

-- and its end
pub all_done : (s : List ℕ) (i d : ℕ) → length s ≤ i → d % 2 ^ 32 ≡ weighed (take i s) % 2 ^ 32 → d % 2 ^ 32 ≡ digest_of s
all_done s i d h e = e ∙ ap (λ (l : List ℕ). weighed l % 2 ^ 32) (take_all i s h)
