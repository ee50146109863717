-- Resume: it gives the number of a row, and each row gives its number.
use mathlib.Core.Path.{◌≡◌, refl, sym, ◌∙◌, subst}
use mathlib.Core.List.{List}
use Prim.Native.Nat.{ℕ, ◌<◌, ◌≤◌}
use lib.ListN.{length, take}
use lib.Dec.{ltb, eqb}
use borrow.Author.Tests.{ltb-true, ltb-false, eqb-true, lt-ltb, le-ltb}
use Rattle.answers.specs.Numbers.{done, bad_size, tail_after_data}
use Rattle.byte_order.specs.Big.{big_at}
use Rattle.reading.specs.Plain.{plain}
use Rattle.reading.specs.declared.CAFFileInfo.{CAFFileInfo}
use Rattle.reading.specs.Shapes.{PlainAnswer, Found, NotRead}
use Rattle.reading.proofs.Choice.{either}
use Rattle.refusals.specs.Numbers.{exceeds}
use Rattle.writer.specs.Resume.{after_header, tail_number, resumed_as, resumed}
use Rattle.writer.specs.Shapes.{Resumed}
use Rattle.given.specs.Rows
use Rattle.given.specs.Rows.{Fits, ResumeGives}
use Rattle.given.proofs.Facts.{too_long, fits, longer, within}

module _ (buf : List ℕ) (len : ℕ) where
  abbrev file : List ℕ
  file = take len buf

  abbrev size_of : CAFFileInfo → ℕ
  size_of info = big_at 8 file info.size_position

  abbrev Row : Resumed → Type 0
  Row d = ResumeGives buf len d.number

  -- the number of a file that is read is that of its size field
  found_number : (info : CAFFileInfo) (k : ℕ) → (resumed_as file (Found info k) len).number ≡ tail_number file info
  found_number info k =
      either (λ (d : Resumed). d.number ≡ tail_number file info) (eqb (tail_number file info) done) (λ e. sym (eqb-true (tail_number file info) done e)) (λ e. refl)

  tail-gives : Fits len (length buf) → (info : CAFFileInfo) (k : ℕ) → plain file ≡ Found info k → ResumeGives buf len (tail_number file info)
  unfolding tail_number
  tail-gives f info k e =
      either (ResumeGives buf len) (ltb (size_of info) 4) (λ s. ResumeGives.too_small f e (ltb-true (size_of info) 4 s))
      (λ s. let l = ltb-false (size_of info) 4 s in
      either (ResumeGives buf len) (ltb (size_of info) (after_header file info)) (λ t. ResumeGives.tail f e l (ltb-true (size_of info) (after_header file info) t))
      (λ t. ResumeGives.accepted f e l (ltb-false (size_of info) (after_header file info) t)))

  as-gives : Fits len (length buf) → (a : PlainAnswer) → plain file ≡ a → Row (resumed_as file a len)
  as-gives f (Found info k) e = subst (ResumeGives buf len) (sym (found_number info k)) (tail-gives f info k e)
  as-gives f (NotRead number k) e = ResumeGives.unread f e

  pub resume-gives : ResumeGives buf len (resumed buf len).number
  unfolding resumed
  resume-gives =
      either Row (exceeds len (length buf)) (λ x. ResumeGives.no-file (too_long len (length buf) x))
      (λ x. as-gives (fits len (length buf) x) (plain file) refl)

  -- a file that is there and is read
  read_number : Fits len (length buf) → (info : CAFFileInfo) (k : ℕ) → plain file ≡ Found info k → (resumed buf len).number ≡ tail_number file info
  unfolding resumed
  read_number f info k e = rw (within len (length buf) f, e) (found_number info k)

  small-number : (info : CAFFileInfo) → size_of info < 4 → tail_number file info ≡ bad_size
  unfolding tail_number
  small-number info s = rw (lt-ltb (size_of info) 4 s)

  tail-number : (info : CAFFileInfo) → 4 ≤ size_of info → size_of info < after_header file info → tail_number file info ≡ tail_after_data
  unfolding tail_number
  tail-number info l t = rw (le-ltb (size_of info) 4 l, lt-ltb (size_of info) (after_header file info) t)

  whole-number : (info : CAFFileInfo) → 4 ≤ size_of info → after_header file info ≤ size_of info → tail_number file info ≡ done
  unfolding tail_number
  whole-number info l t = rw (le-ltb (size_of info) 4 l, le-ltb (size_of info) (after_header file info) t)

  pub resume-row : (number : ℕ) → ResumeGives buf len number → (resumed buf len).number ≡ number
  unfolding resumed
  resume-row number (ResumeGives.no-file x) = rw (longer len (length buf) x)
  resume-row number (ResumeGives.unread f e) = rw (within len (length buf) f, e)
  resume-row number (ResumeGives.too_small f {info} {k} e s) = read_number f info k e ∙ small-number info s
  resume-row number (ResumeGives.tail f {info} {k} e l t) = read_number f info k e ∙ tail-number info l t
  resume-row number (ResumeGives.accepted f {info} {k} e l t) = read_number f info k e ∙ whole-number info l t
