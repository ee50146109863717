-- Counted calls: what a budget leaves of a call, and that one that is large enough leaves all of it.
use mathlib.Core.Path.{◌≡◌, sym, ◌∙◌, ap}
use mathlib.Core.Bool.{Bool, true, false, cond}
use mathlib.Core.List.{List}
use Prim.Native.Nat.{ℕ, ◌+◌, ◌≤◌, min, max}
use native.Mathlib.Nat.{min-zero, max-zero}
use native.Mathlib.Omega.{arith}
use lib.ListN.{length, length-take}
use lib.Seq.{take_all, take-nil}
use Rattle.answers.specs.Numbers.{done}
use Rattle.byte_order.specs.Splice.{has_room, store_count, store_first}
use Rattle.byte_order.proofs.Laws.{splice-nil}
use Rattle.byte_order.proofs.Budget.{all_done}
use Rattle.writer.specs.Outcome.{Outcome, stores, unchanged, unless_refused, cut, counted, buffer_cut}
use Rattle.writer.specs.Record.{as_finished}
use Rattle.writer.specs.Finish.{finish_number, final_size, finish_call}
use Rattle.writer.specs.declared.CAFWriter.{CAFWriter}
use Rattle.writer.specs.Shapes.{Counted}
use Rattle.writer.proofs.Tests.{accepted, refused}

pub cut-whole : (n : ℕ) (o : Outcome) → length o.bytes ≤ n → cut n o ≡ o
cut-whole n o h = ap (λ (bs : List ℕ). record { number = o.number; place = o.place; bytes = bs; after = o.after }) (take_all n o.bytes h)

-- the answer of a counted call that did k stores from position p on
abbrev pub answered : ℕ → ℕ → ℕ → ℕ → Counted
answered number len p k = record { number = number; stores = k; file_len = max len (p + k) }

-- the answer of a counted call without stores
abbrev pub idle : ℕ → ℕ → Counted
idle number len = record { number = number; stores = 0; file_len = len }

module _ (n : ℕ) (w : CAFWriter) (buf : List ℕ) where
  -- a call that changes nothing has no stores, whatever the budget
  pub counted-unchanged : (number : ℕ) → (idle number w.file_len ≡ counted n (unchanged number w) w) × (buf ≡ buffer_cut n (unchanged number w) buf)
  counted-unchanged number = (sym (rw (take-nil, min-zero, max-zero)), sym (rw take-nil (splice-nil buf 0)))

  pub counted-refused : (number : ℕ) (o : Outcome) → (number ≡ done → ⊥) → (idle number w.file_len ≡ counted n (unless_refused number w o) w) × (buf ≡ buffer_cut n (unless_refused number w o) buf)
  counted-refused number o h = rw (refused number w o h) (counted-unchanged number)

  -- a call that is not refused does as many stores as the budget allows
  pub counted-stored : (number p : ℕ) (bs : List ℕ) (after : CAFWriter) → number ≡ done → p + length bs ≤ length buf
      → (k : ℕ) (buf' : List ℕ) → k ≡ store_count n (length bs) p (length buf) → buf' ≡ store_first n bs p buf
      → (answered done w.file_len p k ≡ counted n (unless_refused number w (stores p bs after)) w) × (buf' ≡ buffer_cut n (unless_refused number w (stores p bs after)) buf)
  counted-stored number p bs after e h k buf' ke be =
      let d = all_done n p bs buf (omega arith) in
      let many : k ≡ min n (length bs) = ke ∙ sym d.0 in
      rw (accepted number w (stores p bs after) e) (rw (many, length-take), be ∙ sym d.1)

-- no more stores than there are bytes
pub count_most : (n many p room : ℕ) → store_count n many p room ≤ many
count_most n many p room = go (has_room p (min n many) room)
  where
    go : (b : Bool) → cond b (min n many) 0 ≤ many
    go true = omega arith
    go false = omega arith

-- a finish of a record that is not finished
pub finish-going : (w : CAFWriter) (room : ℕ) → w.finished ≡ false
    → finish_call w room ≡ unless_refused (finish_number w room) w (stores w.size_position (final_size w) (as_finished w))
unfolding finish_call
finish-going w room e = ap (λ (b : Bool). unless_refused (finish_number w room) w (cond b (unchanged done w) (stores w.size_position (final_size w) (as_finished w)))) e
