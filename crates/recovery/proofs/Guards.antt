-- The guards of demand 3: its hypotheses, and what follows from it.
use mathlib.Core.Path.{◌≡◌, refl, sym, ◌∙◌, ap, subst}
use mathlib.Core.Bool.{Bool, true, false, not}
use mathlib.Core.List.{List, [], ◌∷◌, foldl}
use mathlib.Core.Logic.{◌⊎◌, inl, inr}
use Prim.Native.Nat.{ℕ}
use native.Mathlib.Omega.{arith}
use lib.ListN.{length, take, drop}
use lib.Dec.{ltb}
use lib.Ieee.{fits, of_bits}
use borrow.Author.Tests.{ltb-true, ltb-false}
use Rattle.answers.specs.Numbers.{done, bad_size, data_past_end}
use Rattle.format.specs.Packet.{frames_of}
use Rattle.reading.specs.Answers.{strict_number}
use Rattle.reading.specs.Strict.{strict}
use Rattle.reading.specs.declared.StrictInfo.{StrictInfo}
use Rattle.reading.specs.Shapes.{Accepted, Rejected}
use Rattle.writer.specs.Header.{header_bytes_of}
use Rattle.writer.specs.declared.CAFWriter.{CAFWriter}
use Rattle.recovery.specs.Calls.{Call, set, header, bytes, samples, finish, lend, Writes}
use Rattle.recovery.specs.Session.{start, run}
use Rattle.recovery.specs.Cut.{Remains, remains, resting, file_of}
use Rattle.recovery.specs.Sessions.{TypedSessions, resume_cut}
use Rattle.recovery.specs.Demand.{header_length, IsShort, IsWhole, header_chunks, StrictFinds, finds, past_end, bad-size}
use Rattle.recovery.specs.Guards.{ShortOrWhole, CallsAreTyped, example_sessions, ExampleHolds, BilledClosed, DemandFollows, UncutFollows, IsOpen, FinishOrOpen, WrittenFollows}
use Rattle.recovery.proofs.Session.{begins, runs}
use Rattle.recovery.proofs.Demand.{demand3, bill, open-until-finish}
use Rattle.recovery.proofs.Uncut.{finished-headed}
use Rattle.recovery.proofs.ReadBack.{read_back}

pub short-or-whole : ShortOrWhole
short-or-whole r = go (ltb (length (file_of r)) (header_length r)) refl
  where
    go : (b : Bool) → ltb (length (file_of r)) (header_length r) ≡ b → IsShort r ⊎ IsWhole r
    go true e = inl (ltb-true (length (file_of r)) (header_length r) e)
    go false e = inr (ltb-false (length (file_of r)) (header_length r) e)

pub calls-are-typed : CallsAreTyped
calls-are-typed =
    record {
      format = λ rate channels bits t e f c b. (f, c, b);
      tag = λ t h. h;
      labels = λ ls channels h c. (h, c);
      configure = λ rate channels bits ls f c b h. (f, c, b, h);
      group = λ g h. h;
      header = tt;
      bytes = λ bs h. h;
      samples = λ xs. tt;
      finish = tt;
      lend = λ more. tt;
      no_call = tt;
      one_more = λ c cs t u. (t, u);
      no-session = tt;
      next-session = λ lent calls stores cs t u. (t, u);
    }

-- each call in its turn: configure, labels, header, samples, finish; then the bytes
example-typed : TypedSessions example_sessions
unfolding fits of_bits
example-typed =
    (((tt, omega arith, omega arith, (omega arith, (omega arith, tt))), (((omega arith, (omega arith, tt)), omega arith), (tt, (tt, (tt, tt))))), (((omega arith, (omega arith, (omega arith, tt))), tt), tt))

pub example-holds : ExampleHolds
example-holds =
    record {
      typed = example-typed;
      holds = demand3 example_sessions example-typed;
      billed = bill example_sessions example-typed;
    }

-- what follows from demand 3 and the bill
whole-unless : (r : Remains) → (IsShort r → ⊥) → IsWhole r
whole-unless r n = go (short-or-whole r)
  where
    go : IsShort r ⊎ IsWhole r → IsWhole r
    go (inl s) = absurd (n s)
    go (inr w) = w

all_stay : (r : Remains) → ((n : ℕ) → resume_cut r n ≡ r) → (cuts : List ℕ) → foldl resume_cut r cuts ≡ r
all_stay r e [] = refl
all_stay r e (n ∷ ns) = ap (λ (x : Remains). foldl resume_cut x ns) (e n) ∙ all_stay r e ns

refused-with : (r : Remains) (number k : ℕ) → strict (file_of r) ≡ Rejected number k → StrictFinds r
    → (k ≡ header_chunks r.at_header) × ((number ≡ data_past_end) ⊎ ((number ≡ bad_size) × (r.in_reopening ≡ true)))
refused-with r number k e (finds x) = absurd (let z : ◌≡◌ {A = ℕ} 0 1 = cc (e, x.found) in let y : ⊥ = omega arith in y)
refused-with r number k e (past_end f) = (cc, inl (cc))
refused-with r number k e (bad-size q f) = (cc, inr (cc, q))

accepted-with : (r : Remains) (v : StrictInfo) (k : ℕ) → strict (file_of r) ≡ Accepted v k → StrictFinds r
    → (k ≡ header_chunks r.at_header) × (take v.payload (drop v.data_start (file_of r)) ≡ r.arrived)
accepted-with r v k e (finds x) =
    let same : v ≡ x.info = cc (e, x.found) in
    (cc (e, x.found), subst (λ (u : StrictInfo). take u.payload (drop u.data_start (file_of r)) ≡ r.arrived) (sym same) x.there)
accepted-with r v k e (past_end f) = absurd (let z : ◌≡◌ {A = ℕ} 0 1 = cc in let y : ⊥ = omega arith in y)
accepted-with r v k e (bad-size q f) = absurd (let z : ◌≡◌ {A = ℕ} 0 1 = cc in let y : ⊥ = omega arith in y)

pub demand-follows : DemandFollows
demand-follows r h b =
    let accepted : strict_number (strict (file_of r)) ≡ done → IsWhole r = λ e. whole-unless r (λ s. (h.short s).by-strict e) in
    record {
      read = λ e. whole-unless r (λ s. (h.short s).by-plain e);
      accepted = accepted;
      resumed = λ e. whole-unless r (λ s. (h.short s).by-resume e);
      holding = λ l. whole-unless r (λ s. let z : ⊥ = omega (arith, ap length (h.short s).none) in z);
      stays = λ s. all_stay r (h.short s).stays;
      refused = λ w number k e. refused-with r number k e (h.strict-finds w);
      billed = λ v k e.
          let w = accepted (ap strict_number e) in
          let p = accepted-with r v k e (h.strict-finds w) in
          (p.0, p.1, omega (arith, (b.as-cut v k e).payload, b.fits w));
      recovers = λ w. let x = h.recovered w in (x.resumes, x.finishes, subst (BilledClosed r) x.file (b.recovered w));
    }

-- what follows from a session that was never cut
pub uncut-follows : UncutFollows
uncut-follows r u =
    let s = run (start u.buffer) u.calls in
    let h = finished-headed s (runs (start u.buffer) u.calls (begins u.buffer)) u.finished in
    let f = read_back u.buffer [] u.calls tt u.typed h in
    let b = f.found.bills in
    let v = f.found.info in (
      v,
      ap strict u.same-file ∙ f.found.found ∙ ap (λ (w : CAFWriter). Accepted v (header_chunks w)) u.same-header,
      record {
        format = ap (λ (w : CAFWriter). w.format) (sym u.same-header) ∙ b.format;
        payload = b.payload ∙ ap length u.same-data;
        frames = b.frames ∙ ap (λ (x : List ℕ). frames_of v.format (length x)) u.same-data;
      },
      f.state ∙ ap not u.finished,
    )

-- what follows before a finish
pub finish-or-open : FinishOrOpen
finish-or-open lent earlier calls n t u l w = go l.last refl
  where
    is_open : (l.last ≡ finish → ⊥) → IsOpen (remains l n)
    is_open q =
        let x = open-until-finish lent earlier calls n t u l q w in
        (x.found.info, header_chunks (remains l n).at_header, x.found.found, x.state)

    go : (c : Call) → l.last ≡ c → (l.last ≡ finish) ⊎ IsOpen (remains l n)
    go (set x) e = absurd (subst Writes e l.writes)
    go header e = inr (is_open (λ q. let z : ◌≡◌ {A = ℕ} 0 1 = cc in omega arith))
    go (bytes bs) e = inr (is_open (λ q. let z : ◌≡◌ {A = ℕ} 0 1 = cc in omega arith))
    go (samples xs) e = inr (is_open (λ q. let z : ◌≡◌ {A = ℕ} 0 1 = cc in omega arith))
    go finish e = inl e
    go (lend more) e = absurd (subst Writes e l.writes)

-- and at rest
pub written-follows : WrittenFollows
written-follows s f =
    let x = f.found in
    ap (λ (n : ℕ). take n (drop (length (header_bytes_of s.at_header)) (file_of (resting s)))) (sym x.bills.payload)
    ∙ ap (λ (n : ℕ). take x.info.payload (drop n (file_of (resting s)))) (sym f.begins)
    ∙ x.there
