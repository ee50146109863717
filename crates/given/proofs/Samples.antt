-- Packing and unpacking: each gives the number of a row, and each row gives its number.
use mathlib.Core.Path.{◌≡◌}
use mathlib.Core.Bool.{not}
use mathlib.Core.List.{List}
use Prim.Native.Nat.{ℕ, ◌*◌, ◌/◌, ◌%◌}
use lib.ListN.{length}
use lib.IntN.{ℤ}
use lib.Dec.{ltb, eqb}
use borrow.Author.Tests.{ltb-true, ltb-false, eqb-true, eqb-false, not-true, not-false, lt-ltb, le-ltb, eq-eqb, ne_eqb}
use Rattle.pcm.specs.Packing.{pack_number}
use Rattle.pcm.specs.Unpacking.{unpack_number}
use Rattle.reading.proofs.Choice.{either}
use Rattle.given.specs.Rows
use Rattle.given.specs.Rows.{PackGives, UnpackGives}

module _ (xs : List ℤ) (room : ℕ) where
  pub pack-gives : PackGives (length xs) room (pack_number xs room)
  pack-gives =
      either (PackGives (length xs) room) (ltb room (3 * length xs)) (λ h. PackGives.no_room (ltb-true room (3 * length xs) h))
      (λ h. PackGives.accepted (ltb-false room (3 * length xs) h))

  pub pack-row : (number : ℕ) → PackGives (length xs) room number → pack_number xs room ≡ number
  pack-row number (PackGives.no_room h) = rw (lt-ltb room (3 * length xs) h)
  pack-row number (PackGives.accepted h) = rw (le-ltb room (3 * length xs) h)

module _ (bytes : List ℕ) (room : ℕ) where
  abbrev n : ℕ
  n = length bytes

  pub unpack-gives : UnpackGives n room (unpack_number bytes room)
  unpack-gives =
      either (UnpackGives n room) (not (eqb (n % 3) 0)) (λ o. UnpackGives.odd (eqb-false (n % 3) 0 (not-true (eqb (n % 3) 0) o)))
      (λ o. let e = eqb-true (n % 3) 0 (not-false (eqb (n % 3) 0) o) in
      either (UnpackGives n room) (ltb room (n / 3)) (λ h. UnpackGives.no_room e (ltb-true room (n / 3) h))
      (λ h. UnpackGives.accepted e (ltb-false room (n / 3) h)))

  pub unpack-row : (number : ℕ) → UnpackGives n room number → unpack_number bytes room ≡ number
  unpack-row number (UnpackGives.odd o) = rw (ne_eqb (n % 3) 0 o)
  unpack-row number (UnpackGives.no_room e h) = rw (eq-eqb (n % 3) 0 e, lt-ltb room (n / 3) h)
  unpack-row number (UnpackGives.accepted e h) = rw (eq-eqb (n % 3) 0 e, le-ltb room (n / 3) h)
