-- The tests of the definitions, as facts of the rows, and the other way round.
use Rattle.format.specs.declared.AudioFormat.{AudioFormat}
use Rattle.std.proofs.Common.{Option, Some, None}
use mathlib.Core.Path.{◌≡◌, refl, sym, ◌∙◌, ap}
use mathlib.Core.Bool.{Bool, true, false, ◌||◌, true≢false}
use Prim.Native.Nat.{ℕ}
use lib.Dec.{ltb}
use borrow.Author.Tests.{ltb-true, ltb-false, lt-ltb, le-ltb}
use Rattle.answers.specs.Numbers.{file_max}
use Rattle.refusals.specs.Numbers.{exceeds, is_absent}
use Rattle.writer.proofs.Tests.{neither}
use Rattle.given.specs.Rows
use Rattle.given.specs.Rows.{TooLong, Fits}

pub too_long : (len room : ℕ) → exceeds len room ≡ true → TooLong len room
too_long len room e = go (ltb room len) refl e
  where
    go : (a : Bool) → ltb room len ≡ a → a || ltb file_max len ≡ true → TooLong len room
    go true h e = TooLong.for-the-buffer (ltb-true room len h)
    go false h e = TooLong.for-a-file (ltb-true file_max len e)

pub fits : (len room : ℕ) → exceeds len room ≡ false → Fits len room
fits len room e =
    let n = neither (ltb room len) (ltb file_max len) e in
    record { in_buffer = ltb-false room len n.0; in-file = ltb-false file_max len n.1 }

or-true : (a : Bool) → a || true ≡ true
or-true true = refl
or-true false = refl

pub longer : (len room : ℕ) → TooLong len room → exceeds len room ≡ true
longer len room (TooLong.for-the-buffer h) = rw (lt-ltb room len h)
longer len room (TooLong.for-a-file h) = rw (lt-ltb file_max len h) (or-true (ltb room len))

pub within : (len room : ℕ) → Fits len room → exceeds len room ≡ false
within len room f = rw (le-ltb room len f.in_buffer, le-ltb file_max len f.in-file)

pub absent : (m : Option AudioFormat) → is_absent m ≡ true → m ≡ None
absent None e = refl
absent (Some f) e = absurd (true≢false (sym e))

pub present : (m : Option AudioFormat) → is_absent m ≡ false → ¬ (m ≡ None)
present m e p = true≢false (sym (ap is_absent p) ∙ e)

pub is-present : (m : Option AudioFormat) → ¬ (m ≡ None) → is_absent m ≡ false
is-present None h = absurd (h refl)
is-present (Some f) h = refl
