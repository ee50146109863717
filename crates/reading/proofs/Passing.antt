-- The laws of the strict walk's own answers: where a run of other chunks stops, and what each reading's rules make of that.
use Rattle.std.proofs.Common.{ℕ, ◌≡◌, ◌+◌, ◌<◌, ◌≤◌, List, Bool, true, false, cond, length, Option, Some, Result, Ok, Err, refl, sym, ◌∙◌, ap, add-zero, arith}
use lib.Dec.{ltb}
use borrow.Author.Tests.{lt-ltb, le-ltb, ne_eqb}
use Rattle.answers.specs.Numbers.{no_data, cut_short, bad_desc}
use Rattle.answers.specs.Refused.{refusal_number}
use Rattle.answers.specs.declared.refusal.Refusal.{Refusal}
use Rattle.byte_order.specs.Big.{big_at}
use Rattle.format.specs.declared.AudioFormat.{AudioFormat}
use Rattle.reading.specs.Types.{'desc', 'data', type_size, chunk_header_size, size_to_data}
use Rattle.reading.specs.Shapes.{Step, Closed, Data, Refused, PlainAnswer, Found, NotRead, Accepted, strict_of}
use Rattle.reading.specs.Step.{left, stands_at, body_at, skip_at}
use Rattle.reading.specs.Rules.{Rules, Strict, Tail, strict_data, on_data, before_data, on_rest, step_by}
use Rattle.reading.specs.Walk.{info_of, next, walk}
use Rattle.reading.specs.Strict.{strict_info, strict_answer, after_desc}
use Rattle.reading.specs.Table.{Strictly}
use Rattle.reading.specs.Ends.{rest_number, stopped, Stops, ended_as, EndsWalk, EndsData, tail_as, EndsTail}
use Rattle.reading.specs.declared.Stop.{Stop}
use Rattle.reading.specs.declared.Stop.TheVariants as stop
use Rattle.reading.specs.declared.DataSize.{DataSize}
use Rattle.reading.specs.declared.RefusedFile.{RefusedFile}
use Rattle.reading.proofs.Walk.{Ahead, ahead_of, walk-on}

-- the rest before the data
pub rest-is : (n : ℕ) → Refused (rest_number n) 0 ≡ before_data n
rest-is n = go (ltb n type_size)
  where
    go : (b : Bool) → Refused (cond b no_data cut_short) 0 ≡ cond b (Refused no_data 0) (Refused cut_short 0)
    go true = refl
    go false = refl

-- a run of other chunks that has come to p with k headers, for each thing that may stand there
module _ (s : List ℕ) (p : ℕ) (k : ℕ) where
  abbrev Here : Rules → Option AudioFormat → PlainAnswer → Type 0
  Here rules f a = walk s rules p f k ≡ a

  at-step : (rules : Rules) (f : Option AudioFormat) (st : Step) → step_by rules s p ≡ st → Here rules f (next (walk s) rules f k st)
  at-step rules f st e = walk-on s rules p f k ∙ ap (next (walk s) rules f k) e

  pub at_rest : (rules : Rules) (f : Option AudioFormat) → left s p < chunk_header_size → Here rules f (next (walk s) rules f k (on_rest rules (left s p)))
  unfolding step_by
  at_rest rules f h = at-step rules f (on_rest rules (left s p)) (rw (lt-ltb (left s p) chunk_header_size h))

  module _ (whole : chunk_header_size ≤ left s p) where
    pub at-desc : (rules : Rules) (f : Option AudioFormat) → Strictly rules → stands_at s p 'desc' ≡ true → Here rules f (NotRead bad_desc (k + 1))
    unfolding step_by
    at-desc rules f Strictly.before d = at-step rules f (Refused bad_desc 1) (rw (le-ltb (left s p) chunk_header_size whole, d))
    at-desc rules f Strictly.after d = at-step rules f (Refused bad_desc 1) (rw (le-ltb (left s p) chunk_header_size whole, d))

    pub at-data : (rules : Rules) (f : Option AudioFormat) → stands_at s p 'desc' ≡ false → stands_at s p 'data' ≡ true → Here rules f (next (walk s) rules f k (on_data rules s p))
    unfolding step_by
    at-data rules f d e = at-step rules f (on_data rules s p) (rw (le-ltb (left s p) chunk_header_size whole, d, e))

    -- a chunk that is passed over, or that the strict reading refuses since it can't be
    module _ (d : stands_at s p 'desc' ≡ false) (e : stands_at s p 'data' ≡ false) where
      other_step : (rules : Rules) → Strictly rules → {st : Step} → st ≡ skip_at cut_short s p → step_by rules s p ≡ st
      unfolding step_by
      other_step rules Strictly.before is = rw (le-ltb (left s p) chunk_header_size whole, d, e) (sym is)
      other_step rules Strictly.after is = rw (le-ltb (left s p) chunk_header_size whole, d, e) (sym is)

      pub at_other : (rules : Rules) (f : Option AudioFormat) → Strictly rules → {st : Step} → st ≡ skip_at cut_short s p → Here rules f (next (walk s) rules f k st)
      at_other rules f x {st} is = at-step rules f st (other_step rules x is)

      pub other-ahead : {st : Step} → st ≡ skip_at cut_short s p → Ahead (length s) p st
      other-ahead is = ahead_of s Strict p (sym (other_step Strict Strictly.before is))

-- before the data: where a run stops at a refusal, the walk refuses
pub refused : (s : List ℕ) (from met : ℕ) {r : Result Stop RefusedFile} {e : RefusedFile}
    → ((f : Option AudioFormat) → stopped s Strict f r ≡ ended_as f (Err e)) → Stops s from met r → EndsWalk s from met (Err e)
refused s from met same h = record { walked = λ f. h.walked Strict f Strictly.before ∙ same f; told = tt }

pub rest-refused : (s : List ℕ) (n k : ℕ) (f : Option AudioFormat) → next (walk s) Strict f k (before_data n) ≡ NotRead (rest_number n) k
rest-refused s n k f = ap (next (walk s) Strict f k) (sym (rest-is n)) ∙ ap (NotRead (rest_number n)) (add-zero k)

-- at them
module _ (s : List ℕ) (p met : ℕ) where
  pub data-refused : (r : Refusal) → strict_data s p ≡ Refused (refusal_number r) 1 → EndsData s p met (Err (record { refusal = r; chunks = met + 1 }))
  data-refused r e = record { walked = λ f. ap (next (walk s) Strict f met) e; told = tt }

  start_is : body_at p + 4 ≡ p + type_size + size_to_data
  start_is = omega arith

  pub data-open : (size : ℕ) → strict_data s p ≡ Data (p + type_size) (body_at p + 4) → size ≡ big_at 8 s (p + type_size) → p + type_size + size_to_data ≤ length s
      → EndsData s p met (Ok (record { size = size; position = p + type_size; chunks = met + 1 }))
  data-open size e is l =
      record {
        walked = λ f. ap (next (walk s) Strict f met) e ∙ ap (λ (n : ℕ). Found (info_of f (p + type_size) n) (met + 1)) start_is;
        told = (is, l);
      }

  -- closed data, and the walk after them
  module _ (q : ℕ) (e : strict_data s p ≡ Closed (p + type_size) (body_at p + 4) q) where
    closed : (f : Option AudioFormat) → next (walk s) Strict f met (strict_data s p) ≡ walk s (Tail (p + type_size) (p + type_size + size_to_data)) q f (met + 1)
    closed f = ap (next (walk s) Strict f met) e ∙ ap (λ (n : ℕ). walk s (Tail (p + type_size) n) q f (met + 1)) start_is

    pub data-closed : (size k : ℕ) → size ≡ big_at 8 s (p + type_size) → p + type_size + size_to_data ≤ length s → EndsTail s q (met + 1) (Ok k)
        → EndsData s p met (Ok (record { size = size; position = p + type_size; chunks = k }))
    data-closed size k is l h = record { walked = λ f. closed f ∙ h.walked (p + type_size) (p + type_size + size_to_data) f; told = (is, l) }

    pub tail-refused : (r : RefusedFile) → EndsTail s q (met + 1) (Err r) → EndsData s p met (Err r)
    tail-refused r h = record { walked = λ f. closed f ∙ h.walked (p + type_size) (p + type_size + size_to_data) f; told = tt }

pub walk-data : (s : List ℕ) (from met p k : ℕ) (r : Result DataSize RefusedFile) → Stops s from met (Ok (stop.Data p k)) → EndsData s p k r → EndsWalk s from met r
walk-data s from met p k r h d = record { walked = λ f. h.walked Strict f Strictly.before ∙ d.walked f; told = d.told }

-- and after them
module _ (s : List ℕ) (from met : ℕ) where
  pub after-data : {r : Result Stop RefusedFile} {e : Result ℕ RefusedFile} → ((size start : ℕ) (f : Option AudioFormat) → stopped s (Tail size start) f r ≡ tail_as size start f e)
      → Stops s from met r → EndsTail s from met e
  after-data same h = record { walked = λ size start f. h.walked (Tail size start) f Strictly.after ∙ same size start f }

  pub tail-cut : (n k size start : ℕ) (f : Option AudioFormat) → ¬ (n ≡ 0) → next (walk s) (Tail size start) f k (on_rest (Tail size start) n) ≡ NotRead cut_short k
  tail-cut n k size start f z = rw (ne_eqb n 0 z, add-zero)

-- the strict reading's answer
module _ (s : List ℕ) (f : AudioFormat) where
  pub ended-refused : (e : RefusedFile) → EndsWalk s 52 1 (Err e) → strict_of (Err e) ≡ after_desc s f
  ended-refused e h = ap (strict_answer s f) (sym (h.walked (Some f)))

  pub ended-accepted : (d : DataSize) → EndsWalk s 52 1 (Ok d)
      → Accepted (strict_info f d.size d.position (d.position + size_to_data) (left s (d.position + size_to_data))) d.chunks ≡ after_desc s f
  ended-accepted d h =
      ap (λ (z : ℕ). Accepted (strict_info f z d.position (d.position + size_to_data) (left s (d.position + size_to_data))) d.chunks) h.told.0
      ∙ ap (strict_answer s f) (sym (h.walked (Some f)))
