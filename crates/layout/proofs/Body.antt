-- When a `chan` body is put into a buffer, and that its two parts put one after the other are it.
use mathlib.Core.Path.{◌≡◌, refl, sym, ◌∙◌}
use mathlib.Core.Bool.{true, false}
use mathlib.Core.List.{List}
use Prim.Native.Nat.{ℕ, ◌+◌, ◌<◌, ◌≤◌}
use native.Mathlib.Omega.{arith}
use lib.ListN.{length}
use borrow.Author.Tests.{le-leb, lt-leb}
use Rattle.byte_order.specs.Splice.{splice, store_first}
use Rattle.byte_order.proofs.Budget.{whole-done}
use Rattle.byte_order.proofs.Laws.{more}
use Rattle.layout.specs.Setting.{label_places}
use Rattle.layout.specs.Chan.{chan_head, descriptions, chan_body, chan_size, chan_fits, chan_put}
use Rattle.layout.proofs.Descriptions.{descriptions-length}

module _ (buf : List ℕ) (p tag : ℕ) (ls : List ℕ) where
  refused : chan_fits (length ls) p (length buf) ≡ false → (false ≡ chan_fits (length ls) p (length buf)) × (buf ≡ chan_put buf p tag ls)
  refused h = (sym h, rw h)

  pub too_many : label_places < length ls → (false ≡ chan_fits (length ls) p (length buf)) × (buf ≡ chan_put buf p tag ls)
  too_many h = refused (rw (lt-leb (length ls) label_places h))

  pub no_room : length ls ≤ label_places → length buf < p + chan_size (length ls) → (false ≡ chan_fits (length ls) p (length buf)) × (buf ≡ chan_put buf p tag ls)
  no_room few h = refused (rw (le-leb (length ls) label_places few, lt-leb (p + chan_size (length ls)) (length buf) h))

  pub body-put : {bytes e f : List ℕ} → length ls ≤ label_places → p + chan_size (length ls) ≤ length buf
      → bytes ≡ chan_head tag (length ls) → e ≡ store_first 12 bytes p buf → f ≡ splice e (p + 12) (descriptions ls)
      → (true ≡ chan_fits (length ls) p (length buf)) × (f ≡ chan_put buf p tag ls)
  unfolding chan_body
  body-put {bytes} {e} {f} few room is first then =
      let head = chan_head tag (length ls) in
      let size = descriptions-length ls in
      let h : chan_fits (length ls) p (length buf) ≡ true = rw (le-leb (length ls) label_places few, le-leb (p + chan_size (length ls)) (length buf) room) in
      let stored : e ≡ splice buf p head = first ∙ rw is (whole-done 12 p head buf refl (omega arith)) in
      (sym h, rw h (more buf p 12 head (descriptions ls) stored then refl (omega arith)))
