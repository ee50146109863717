use Rattle.std.proofs.Common.{◌≡◌, ℕ, suc, ◌+◌, ◌-◌, ◌<◌, ◌≤◌, List, length, Option, Some, sym, ap, ◌∙◌, arith}
use borrow.Author.Tests.{lt-ltb}
use Rattle.cases.specs.Frame.{case_at}
use Rattle.cases.specs.declared.frame.Case.{Case}
use Rattle.cases.specs.Tally.{after, cases_from, case_count}
use Rattle.cases.proofs.tally.tally_of.Goals as goal

-- a case is one of those that are left, and the others come after it
one : (s : List ℕ) (n at : ℕ) (o : Option Case) → n ≤ at → at < length s → case_at s at ≡ o
    → cases_from (length s - n) s at ≡ 1 + after (λ (p : ℕ). cases_from (length s - (n + 1)) s p) o
one s n at o h k e =
    let m : length s - n ≡ suc (length s - (n + 1)) = omega arith in
    ap (λ (j : ℕ). cases_from j s at) m
    ∙ rw (lt-ltb at (length s) k) (ap (λ (x : Option Case). 1 + after (λ (p : ℕ). cases_from (length s - (n + 1)) s p) x) e)

counted : (s : List ℕ) (n at total : ℕ) (c : Case) (m : ℕ) → m ≡ n + 1 → n ≤ at → at < length s → case_at s at ≡ Some c
    → total ≡ n + cases_from (length s - n) s at → total ≡ m + cases_from (length s - m) s c.end
counted s n at total c m is h k e t = rw is (omega (arith, one s n at (Some c) h k e))

pub loop-at-init : goal.loop-at-init
unfolding case_count
loop-at-init g c =
    let s = c.args.s.now in
    let z : length s - 0 ≡ length s = omega arith in
    record { within = omega arith; counted = omega (arith, ap (λ (k : ℕ). cases_from k s 0) z) }

pub loop-at-preserved-then-is_same : goal.loop-at-preserved-then-is_same
loop-at-preserved-then-is_same g c =
    let l = c.loop-at in
    record {
      within = omega (arith, c.in-Some.ensures.within);
      counted = counted c.args.s.now (l.same + l.different) l.at _ c.in-Some.case (l.same + 1 + l.different) (omega arith) l.invariant.within c.loop-at-test.true (sym c.case_at.ensures.value ∙ c.in-Some.is) l.invariant.counted;
    }

pub loop-at-preserved : goal.loop-at-preserved
loop-at-preserved g c =
    let l = c.loop-at in
    record {
      within = omega (arith, c.in-Some.ensures.within);
      counted = counted c.args.s.now (l.same + l.different) l.at _ c.in-Some.case (l.same + (l.different + 1)) (omega arith) l.invariant.within c.loop-at-test.true (sym c.case_at.ensures.value ∙ c.in-Some.is) l.invariant.counted;
    }
