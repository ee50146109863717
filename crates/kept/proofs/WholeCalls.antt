-- A counted call with a budget for all of its stores is the whole call.
use mathlib.Core.Path.{◌≡◌, refl, sym, ◌∙◌, ap}
use mathlib.Core.Bool.{Bool, true, false, cond}
use mathlib.Core.List.{List, []}
use Prim.Native.Nat.{ℕ, ◌+◌, ◌≤◌, max}
use native.Mathlib.Nat.{min-eq_right}
use native.Mathlib.Omega.{arith}
use lib.Dec.{eqb}
use lib.ListN.{length, take, length-take}
use lib.Seq.{take-nil}
use lib.IntN.{ℤ}
use borrow.Author.Tests.{eqb-true, eqb-false}
use Rattle.answers.specs.Numbers.{done}
use Rattle.pcm.specs.Packing.{packed}
use Rattle.writer.specs.Record.{with_header, with_data, as_finished}
use Rattle.writer.specs.Outcome.{Outcome, stores, unchanged, unless_refused, buffer_after, cut, length_after}
use Rattle.writer.specs.Header.{header_bytes_of, header_number, header_call}
use Rattle.writer.specs.Data.{data_number, data_call, samples_number, samples_call}
use Rattle.writer.specs.Finish.{finish_number, final_size, finish_call}
use Rattle.writer.specs.Resume.{resumed, open_field, resume_call}
use Rattle.kept.specs.WholeCalls.{CutWhole, SameAsWhole, Whole, WholeCalls}
use Rattle.writer.specs.declared.CAFWriter.{CAFWriter}
use Rattle.writer.proofs.Facts.{sound-alone, headed, empty}
use Rattle.writer.proofs.Allowed.{header-allowed, finish-sound, finish-header}
use Rattle.writer.proofs.Counting as counting
use Rattle.writer.proofs.Reopening.{resume-number, resume-refused, reopens}

pub cut-whole : CutWhole
cut-whole = counting.cut-whole

-- the file grows as the next record says
abbrev Grown : CAFWriter → Outcome → Type 0
Grown w o = length_after o w.file_len ≡ o.after.file_len

unless-grown : (number : ℕ) (w : CAFWriter) (o : Outcome) → (number ≡ done → Grown w o) → Grown w (unless_refused number w o)
unless-grown number w o h = go (eqb number done) refl
  where
    go : (b : Bool) → eqb number done ≡ b → Grown w (cond b o (unchanged number w))
    go true e = h (eqb-true number done e)
    go false e = omega arith

same : (w : CAFWriter) (o : Outcome) (n : ℕ) → Grown w o → length o.bytes ≤ n → SameAsWhole w o n
same w o n g l =
    let e = cut-whole n o l in
    record {
      number = refl;
      stores = min-eq_right l;
      file = ap (λ (x : Outcome). length_after x w.file_len) e ∙ g;
      buffer = λ buf. ap (λ (x : Outcome). buffer_after x buf) e;
    }

header-grown : (w : CAFWriter) (room : ℕ) → Grown w (header_call w room)
unfolding header_call
header-grown w room =
    unless-grown (header_number w room) w (stores 0 (header_bytes_of w) (with_header w (length (header_bytes_of w))))
    (λ z. let a = header-allowed w room z in
    let e = empty w a.no-header (sound-alone w room a.is-sound).places in
    omega (arith, e.length))

data-grown : (w : CAFWriter) (room : ℕ) (bs : List ℕ) → Grown w (data_call w room bs)
unfolding data_call
data-grown w room bs = unless-grown (data_number w room (length bs)) w (stores w.file_len bs (with_data w (length bs))) (λ z. omega arith)

samples-grown : (w : CAFWriter) (room : ℕ) (xs : List ℤ) → Grown w (samples_call w room xs)
unfolding samples_call
samples-grown w room xs =
    let bs = packed w.endianness xs in
    unless-grown (samples_number w room (length bs)) w (stores w.file_len bs (with_data w (length bs))) (λ z. omega arith)

finish-grown : (w : CAFWriter) (room : ℕ) → Grown w (finish_call w room)
unfolding finish_call
finish-grown w room =
    unless-grown (finish_number w room) w (cond w.finished (unchanged done w) (stores w.size_position (final_size w) (as_finished w)))
    (λ z. go z w.finished refl)
  where
    go : finish_number w room ≡ done → (b : Bool) → w.finished ≡ b → Grown w (cond b (unchanged done w) (stores w.size_position (final_size w) (as_finished w)))
    go z true e = omega arith
    go z false e = let p = headed w (finish-header w room z e) (sound-alone w room (finish-sound w room z)).places in omega (arith, p.apart, p.to)

-- a resume stores within the file
resume-within : (n : ℕ) (buf : List ℕ) (len : ℕ) → length_after (cut n (resume_call buf len)) len ≡ len
resume-within n buf len = go (eqb (resume_call buf len).number done) refl
  where
    go : (b : Bool) → eqb (resume_call buf len).number done ≡ b → length_after (cut n (resume_call buf len)) len ≡ len
    go true e =
        let r = reopens buf len (eqb-true _ done e) in
        let l : length (take n open_field) ≤ 8 = rw length-take (omega arith) in
        let m : max len ((resumed buf len).writer.size_position + length (take n open_field)) ≡ len = omega (arith, r.places.apart, r.places.to, r.opened.len_is) in
        ap (λ (x : Outcome). length_after (cut n x) len) r.is ∙ m
    go false e =
        let t : take n [] ≡ [] = take-nil {A = ℕ} n in
        ap (λ (x : Outcome). length_after (cut n x) len) (resume-refused buf len (eqb-false _ done e))
        ∙ ap (λ (x : List ℕ). max len (0 + length x)) t ∙ omega arith

pub whole-calls : WholeCalls
whole-calls =
    record {
      header = λ w room n l. same w (header_call w room) n (header-grown w room) l;
      bytes = λ bs w room n l. same w (data_call w room bs) n (data-grown w room bs) l;
      samples = λ xs w room n l. same w (samples_call w room xs) n (samples-grown w room xs) l;
      finish = λ w room n l. same w (finish_call w room) n (finish-grown w room) l;
      resume = λ buf len n l.
          record {
            number = resume-number buf len;
            stores = min-eq_right l;
            file = resume-within n buf len;
            chunks = refl;
            buffer = ap (λ (x : Outcome). buffer_after x buf) (cut-whole n (resume_call buf len) l);
          };
    }
