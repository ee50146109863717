-- A fresh record is sound, and so is what resume gives.
use Rattle.std.proofs.Common.{Option, Some, None}
use mathlib.Core.Path.{◌≡◌, refl, sym}
use mathlib.Core.Bool.{true}
use mathlib.Core.List.{List}
use Prim.Native.Nat.{ℕ, ◌-◌, ◌≤◌}
use native.Mathlib.Omega.{arith}
use lib.Dec.{ltb, eqb}
use lib.ListN.{length, take}
use lib.Seq.{length-take-le}
use borrow.Author.Tests.{ltb-false}
use Rattle.answers.specs.Numbers.{done, file_max}
use Rattle.format.specs.declared.AudioFormat.{AudioFormat}
use Rattle.format.specs.Flags.{same_order, endianness_for}
use Rattle.format.specs.declared.Endianness.{Endianness}
use Rattle.format.specs.declared.Endianness.TheVariants.{BigEndian, LittleEndian}
use Rattle.reading.specs.Plain.{plain}
use Rattle.reading.specs.declared.CAFFileInfo.{CAFFileInfo}
use Rattle.reading.specs.Shapes.{PlainAnswer, Found, NotRead}
use Rattle.reading.proofs.Choice.{either}
use Rattle.reading.proofs.Found.{Number, Good, GoodAnswer, plain-good}
use Rattle.refusals.specs.Numbers.{exceeds}
use Rattle.refusals.specs.Sound.{rate_sound}
use Rattle.writer.specs.Record.{fresh}
use Rattle.writer.specs.Sound.{places_sound, format_sound, layout_sound, sound}
use Rattle.writer.specs.Resume.{reopened, tail_number, resumed_as, resumed}
use Rattle.writer.specs.Shapes.{Resumed}
use Rattle.writer.proofs.Tests.{both, neither}
use Rattle.writer.proofs.Facts.{is-sound, is-headed}

pub fresh-sound : (room : ℕ) → sound fresh room ≡ true
unfolding places_sound format_sound layout_sound
fresh-sound room = is-sound fresh room (omega arith) (record { in-file = omega arith; places = refl; format = refl; layout = refl })

same : (e : Endianness) → same_order e e ≡ true
same BigEndian = refl
same LittleEndian = refl

rate-good : (f : Option AudioFormat) → Number f → rate_sound f ≡ true
rate-good None m = refl
rate-good (Some f) m = rw m

reopened-sound : (info : CAFFileInfo) (len room : ℕ) → len ≤ room → len ≤ file_max → Good len info → sound (reopened info len) room ≡ true
unfolding format_sound layout_sound
reopened-sound info len room r m g =
    is-sound (reopened info len) room r
    (record {
      in-file = m;
      places = is-headed (reopened info len) refl (record { apart = g.apart; from = g.from; to = g.to; count = omega arith });
      format = rw g.order (both (rate_sound info.format) (same_order (endianness_for info.format) (endianness_for info.format)) (rate-good info.format g.number) (same (endianness_for info.format)));
      layout = refl;
    })

as-sound : (s : List ℕ) (a : PlainAnswer) (len room : ℕ) → len ≤ room → len ≤ file_max → GoodAnswer len a → sound (resumed_as s a len).writer room ≡ true
as-sound s (Found info k) len room r m g =
    either (λ (x : Resumed). sound x.writer room ≡ true) (eqb (tail_number s info) done) (λ _. reopened-sound info len room r m g) (λ _. fresh-sound room)
as-sound s (NotRead number k) len room r m g = fresh-sound room

pub resume-sound : (buf : List ℕ) (len : ℕ) → sound (resumed buf len).writer (length buf) ≡ true
unfolding resumed
resume-sound buf len =
    either (λ (d : Resumed). sound d.writer (length buf) ≡ true) (exceeds len (length buf)) (λ _. fresh-sound (length buf))
    (λ e.
    let q = neither (ltb (length buf) len) (ltb file_max len) e in
    let r = ltb-false (length buf) len q.0 in
    let g : GoodAnswer len (plain (take len buf)) = rw (length-take-le len buf r) at (plain-good (take len buf)) in
    as-sound _ (plain (take len buf)) len (length buf) r (ltb-false file_max len q.1) g)
