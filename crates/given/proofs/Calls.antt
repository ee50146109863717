-- The number of a call is that of its definition: refused with it, or done.
use mathlib.Core.Path.{◌≡◌, refl, sym, ◌∙◌, ap}
use mathlib.Core.Bool.{Bool, true, false, cond}
use Prim.Native.Nat.{ℕ}
use lib.Dec.{eqb}
use borrow.Author.Tests.{eqb-true}
use Rattle.answers.specs.Numbers.{done}
use Rattle.pcm.proofs.Packed.{length-packed}
use Rattle.writer.specs.Outcome.{Outcome, unchanged, unless_refused, stores}
use Rattle.writer.specs.Record.{as_finished}
use Rattle.writer.specs.Header.{header_call}
use Rattle.writer.specs.Data.{data_call, samples_number, samples_call}
use Rattle.writer.specs.Finish.{final_size, finish_call}
use Rattle.writer.specs.Resume.{resume_call}
use Rattle.writer.specs.Overview.{overview_call}
use Rattle.writer.specs.Settings.{format_call, tag_call, labels_call, configure_call, group_call}
use Rattle.writer.specs.declared.CAFWriter.{CAFWriter}
use Rattle.given.specs.Claims.{NumbersOfCalls}

its-number : (n : ℕ) (w : CAFWriter) (o : Outcome) → o.number ≡ done → (unless_refused n w o).number ≡ n
its-number n w o d = go (eqb n done) refl
  where
    go : (b : Bool) → eqb n done ≡ b → (cond b o (unchanged n w)).number ≡ n
    go true e = d ∙ sym (eqb-true n done e)
    go false e = refl

finish-done : (b : Bool) (w : CAFWriter) → (cond b (unchanged done w) (stores w.size_position (final_size w) (as_finished w))).number ≡ done
finish-done true w = refl
finish-done false w = refl

pub numbers-of-calls : NumbersOfCalls
unfolding header_call data_call samples_call finish_call resume_call overview_call group_call format_call tag_call labels_call configure_call
numbers-of-calls =
    record {
      header = λ w room. its-number _ w _ refl;
      bytes = λ w room bytes. its-number _ w _ refl;
      samples = λ w room xs. its-number _ w _ refl ∙ ap (samples_number w room) (length-packed w.endianness xs);
      finish = λ w room. its-number _ w _ (finish-done w.finished w);
      resume = λ buf len. its-number _ _ _ refl;
      overview = λ w buf. its-number _ w _ refl;
      group = λ w frames. its-number _ w _ refl;
      format = λ w rate channels bits t e. its-number _ w _ refl;
      tag = λ w t. its-number _ w _ refl;
      labels = λ w ls channels. its-number _ w _ refl;
      configure = λ w rate channels bits ls. its-number _ w _ refl;
    }
