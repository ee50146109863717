-- The calls that write: each gives the number of a row, and each row gives its number.
use mathlib.Core.Path.{◌≡◌, ap}
use mathlib.Core.Bool.{not}
use Prim.Native.Nat.{ℕ, ◌+◌}
use lib.ListN.{length}
use borrow.Author.Tests.{not-true, not-false}
use Rattle.reading.proofs.Choice.{either}
use Rattle.refusals.specs.Numbers.{exceeds, is_absent}
use Rattle.writer.specs.Sound.{sound}
use Rattle.writer.specs.Header.{header_bytes_of, header_number}
use Rattle.writer.specs.Data.{data_number, samples_number}
use Rattle.writer.specs.Finish.{finish_number}
use Rattle.writer.specs.declared.CAFWriter.{CAFWriter}
use Rattle.given.specs.Rows
use Rattle.given.specs.Rows.{Going, HeaderGives, DataGives, SamplesGives, FinishGives}
use Rattle.given.proofs.Facts.{too_long, fits, longer, within, absent, present, is-present}

module _ (w : CAFWriter) (room : ℕ) where
  pub header-gives : HeaderGives w room (header_number w room)
  unfolding header_number
  header-gives =
      let n = length (header_bytes_of w) in
      either (HeaderGives w room) (not (sound w room)) (λ s. HeaderGives.unsound (not-true (sound w room) s))
      (λ s. let ok = not-false (sound w room) s in
      either (HeaderGives w room) w.finished (λ f. HeaderGives.after_finish ok f)
      (λ f. let g : Going w room = record { is-sound = ok; not-finished = f } in
      either (HeaderGives w room) w.has_header (λ h. HeaderGives.second g h)
      (λ h. either (HeaderGives w room) (is_absent w.format) (λ a. HeaderGives.no-format g h (absent w.format a))
      (λ a. either (HeaderGives w room) (exceeds n room) (λ x. HeaderGives.no_room g h (present w.format a) (too_long n room x))
      (λ x. HeaderGives.accepted g h (present w.format a) (fits n room x))))))

  pub header_row : (number : ℕ) → HeaderGives w room number → header_number w room ≡ number
  unfolding header_number header_bytes_of
  header_row number (HeaderGives.unsound s) = rw s
  header_row number (HeaderGives.after_finish s f) = rw (s, f)
  header_row number (HeaderGives.second g h) = rw (g.is-sound, g.not-finished, h)
  header_row number (HeaderGives.no-format g h a) = rw (g.is-sound, g.not-finished, h, ap is_absent a)
  header_row number (HeaderGives.no_room g h p x) = rw (g.is-sound, g.not-finished, h, is-present w.format p, longer (length (header_bytes_of w)) room x)
  header_row number (HeaderGives.accepted g h p x) = rw (g.is-sound, g.not-finished, h, is-present w.format p, within (length (header_bytes_of w)) room x)

  pub finish-gives : FinishGives w room (finish_number w room)
  unfolding finish_number
  finish-gives =
      either (FinishGives w room) (not (sound w room)) (λ s. FinishGives.unsound (not-true (sound w room) s))
      (λ s. let ok = not-false (sound w room) s in
      either (FinishGives w room) w.finished (λ f. FinishGives.again ok f)
      (λ f. let g : Going w room = record { is-sound = ok; not-finished = f } in
      either (FinishGives w room) (not w.has_header) (λ h. FinishGives.no-header g (not-true w.has_header h))
      (λ h. FinishGives.accepted g (not-false w.has_header h))))

  pub finish-row : (number : ℕ) → FinishGives w room number → finish_number w room ≡ number
  unfolding finish_number
  finish-row number (FinishGives.unsound s) = rw s
  finish-row number (FinishGives.again s f) = rw (s, f)
  finish-row number (FinishGives.no-header g h) = rw (g.is-sound, g.not-finished, h)
  finish-row number (FinishGives.accepted g h) = rw (g.is-sound, g.not-finished, h)

module _ (w : CAFWriter) (room n : ℕ) where
  abbrev end : ℕ
  end = w.file_len + n

  pub data-gives : DataGives w room n (data_number w room n)
  unfolding data_number
  data-gives =
      either (DataGives w room n) (not (sound w room)) (λ s. DataGives.unsound (not-true (sound w room) s))
      (λ s. let ok = not-false (sound w room) s in
      either (DataGives w room n) w.finished (λ f. DataGives.after_finish ok f)
      (λ f. let g : Going w room = record { is-sound = ok; not-finished = f } in
      either (DataGives w room n) (not w.has_header) (λ h. DataGives.no-header g (not-true w.has_header h))
      (λ h. let there = not-false w.has_header h in
      either (DataGives w room n) (exceeds end room) (λ x. DataGives.no_room g there (too_long end room x))
      (λ x. DataGives.accepted g there (fits end room x)))))

  pub data-row : (number : ℕ) → DataGives w room n number → data_number w room n ≡ number
  unfolding data_number
  data-row number (DataGives.unsound s) = rw s
  data-row number (DataGives.after_finish s f) = rw (s, f)
  data-row number (DataGives.no-header g h) = rw (g.is-sound, g.not-finished, h)
  data-row number (DataGives.no_room g h x) = rw (g.is-sound, g.not-finished, h, longer end room x)
  data-row number (DataGives.accepted g h x) = rw (g.is-sound, g.not-finished, h, within end room x)

  pub samples-gives : SamplesGives w room n (samples_number w room n)
  unfolding samples_number
  samples-gives =
      either (SamplesGives w room n) (not (sound w room)) (λ s. SamplesGives.unsound (not-true (sound w room) s))
      (λ s. let ok = not-false (sound w room) s in
      either (SamplesGives w room n) w.finished (λ f. SamplesGives.after_finish ok f)
      (λ f. let g : Going w room = record { is-sound = ok; not-finished = f } in
      either (SamplesGives w room n) (not w.has_header) (λ h. SamplesGives.no-header g (not-true w.has_header h))
      (λ h. let there = not-false w.has_header h in
      either (SamplesGives w room n) (is_absent w.format) (λ a. SamplesGives.no-format g there (absent w.format a))
      (λ a. either (SamplesGives w room n) (exceeds end room) (λ x. SamplesGives.no_room g there (present w.format a) (too_long end room x))
      (λ x. SamplesGives.accepted g there (present w.format a) (fits end room x))))))

  pub samples-row : (number : ℕ) → SamplesGives w room n number → samples_number w room n ≡ number
  unfolding samples_number
  samples-row number (SamplesGives.unsound s) = rw s
  samples-row number (SamplesGives.after_finish s f) = rw (s, f)
  samples-row number (SamplesGives.no-header g h) = rw (g.is-sound, g.not-finished, h)
  samples-row number (SamplesGives.no-format g h a) = rw (g.is-sound, g.not-finished, h, ap is_absent a)
  samples-row number (SamplesGives.no_room g h p x) = rw (g.is-sound, g.not-finished, h, is-present w.format p, longer end room x)
  samples-row number (SamplesGives.accepted g h p x) = rw (g.is-sound, g.not-finished, h, is-present w.format p, within end room x)
