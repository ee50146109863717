-- The feeding record's fields keep within their types as bytes are fed: its piece is 32 bytes, its format an `AudioFormat`.
use Rattle.std.proofs.Common.{Option, Some, None}
use mathlib.Core.Path.{◌≡◌, ◌∙◌}
use mathlib.Core.Bool.{not, ◌&&◌}
use mathlib.Core.List.{List, [], ◌∷◌, ◌++◌}
use Prim.Native.Nat.{ℕ, zero, suc, ◌+◌, ◌-◌, ◌<◌, ◌≤◌, ◌^◌}
use native.Mathlib.Omega.{arith}
use lib.ListN.{length, take, drop}
use lib.Dec.{leb, eqb}
use Rattle.answers.specs.Numbers.{file_max}
use Rattle.byte_order.specs.Splice.{splice}
use Rattle.byte_order.proofs.Laws.{length-splice}
use Rattle.format.specs.Desc.{desc_size, Typed}
use Rattle.format.specs.declared.AudioFormat.{AudioFormat}
use Rattle.reading.specs.Types.{'caff', 'desc', 'data', version, negative}
use Rattle.reading.specs.Step.{stands_at, size_at, bad_rate_at}
use Rattle.reading.specs.Rules.{is_open_size, is_bad_data_size}
use Rattle.reading.specs.Claims.{Bytes}
use Rattle.reading.proofs.Choice.{either}
use Rattle.reading.proofs.SoundDesc.{desc-typed}
use Rattle.feeder.specs.Record.{piece_size}
use Rattle.feeder.specs.declared.Phase.{Phase}
use Rattle.feeder.specs.declared.Phase.TheVariants.{FileHeader, FirstHeader, Desc, Header, Skipping, Edit, OpenData, ClosedData, Refused}
use Rattle.feeder.specs.declared.DataChunk.{DataChunk}
use Rattle.feeder.specs.declared.Feeder.{Feeder}
use Rattle.feeder.proofs.Facts.{Sound}
use Rattle.judging.specs.Judge.{skipping, passing, judged_data, judged_header, judged}
use Rattle.feeding.specs.Feed.{collected, fills, took, is_refused, step1, feed_bytes}
use Rattle.feeding.proofs.Soundness.{step-sound}

-- a format where there is one, and a refusal of 32 bits
abbrev pub TypedPhase : Phase → Type 0
TypedPhase FileHeader = Unit {0}
TypedPhase FirstHeader = Unit {0}
TypedPhase Desc = Unit {0}
TypedPhase (Header f d) = Typed f
TypedPhase (Skipping f d left) = Typed f
TypedPhase (Edit f size) = Typed f
TypedPhase (OpenData f start) = Typed f
TypedPhase (ClosedData f chunk left) = Typed f
TypedPhase (Refused number) = number < 2 ^ 32

pub record TypedFeeder (r : Feeder) : Type 0 where
  pub long : length r.held ≡ 32
  pub bytes : Bytes r.held
  pub phase : TypedPhase r.phase

joined : (xs ys : List ℕ) → Bytes xs → Bytes ys → Bytes (xs ++ ys)
joined [] ys a b = b
joined (x ∷ xs) ys a b = (a.0, joined xs ys a.1 b)

taken : (n : ℕ) (xs : List ℕ) → Bytes xs → Bytes (take n xs)
taken zero xs a = tt
taken (suc n) [] a = tt
taken (suc n) (x ∷ xs) a = (a.0, taken n xs a.1)

dropped : (n : ℕ) (xs : List ℕ) → Bytes xs → Bytes (drop n xs)
dropped zero xs a = a
dropped (suc n) [] a = tt
dropped (suc n) (x ∷ xs) a = dropped n xs a.1

spliced : (xs : List ℕ) (n : ℕ) (ys : List ℕ) → Bytes xs → Bytes ys → Bytes (splice xs n ys)
spliced xs n ys a b = joined (take n xs ++ ys) _ (joined (take n xs) ys (taken n xs a) b) (dropped (n + length ys) xs a)

skipping-typed : (f : AudioFormat) (d : Option DataChunk) (n : ℕ) → Typed f → TypedPhase (skipping f d n)
skipping-typed f d n t = either TypedPhase (eqb n 0) (λ _. t) (λ _. t)

passing-typed : (f : AudioFormat) (c : DataChunk) (n : ℕ) → Typed f → TypedPhase (passing f c n)
passing-typed f c n t = either TypedPhase (eqb n 0) (λ _. t) (λ _. t)

data-typed : (f : AudioFormat) (d : Option DataChunk) (size : ℕ) → Typed f → TypedPhase (judged_data f d size)
data-typed f None size t = either TypedPhase (is_bad_data_size size) (λ _. omega arith) (λ _. t)
data-typed f (Some chunk) size t = omega arith

-- what a whole piece of bytes leads to
judged-typed : (h : List ℕ) (t : ℕ) (phase : Phase) → Bytes h → TypedPhase phase → TypedPhase (judged h t phase)
unfolding judged judged_header
judged-typed h t FileHeader b p =
    either TypedPhase (not (stands_at h 0 'caff')) (λ _. omega arith)
    (λ _. either TypedPhase (not (stands_at h 4 version)) (λ _. omega arith) (λ _. tt))
judged-typed h t FirstHeader b p = either TypedPhase (not (stands_at h 0 'desc' && eqb (size_at h 0) desc_size)) (λ _. omega arith) (λ _. tt)
judged-typed h t Desc b p = either TypedPhase (bad_rate_at h 0) (λ _. omega arith) (λ e. desc-typed h 0 b e)
judged-typed h t (Header f d) b p =
    either TypedPhase (stands_at h 0 'desc') (λ _. omega arith)
    (λ _. either TypedPhase (stands_at h 0 'data') (λ _. data-typed f d (size_at h 0) p)
    (λ _. either TypedPhase (leb negative (size_at h 0)) (λ _. omega arith) (λ _. skipping-typed f d (size_at h 0) p)))
judged-typed h t (Skipping f d left) b p = p
judged-typed h t (Edit f size) b p = either TypedPhase (is_open_size size) (λ _. p) (λ _. passing-typed f (record { size = size; start = t }) (size - 4) p)
judged-typed h t (OpenData f start) b p = p
judged-typed h t (ClosedData f chunk left) b p = p
judged-typed h t (Refused number) b p = p

fills-typed : (r : Feeder) (b : ℕ) → b < 256 → r.count < 32 → TypedFeeder r → TypedFeeder (fills r (b ∷ []))
unfolding collected
fills-typed r b l few t =
    let h = spliced r.held r.count (b ∷ []) t.bytes (l, tt) in
    let room : r.count + 1 ≤ length r.held = omega (arith, t.long) in
    let g = length-splice r.held r.count (b ∷ []) room ∙ t.long in
    either TypedFeeder (eqb (r.count + 1) (piece_size r.phase))
    (λ _. record { long = g; bytes = h; phase = judged-typed _ (r.total + 1) r.phase h t.phase })
    (λ _. record { long = g; bytes = h; phase = t.phase })

module _ (h : List ℕ) (n t k b : ℕ) (l : b < 256) where
  abbrev at : Phase → Feeder
  at phase = record { phase = phase; held = h; count = n; total = t; chunks = k }

  took-typed : (phase : Phase) → n ≤ piece_size phase - 1 → TypedFeeder (at phase) → TypedFeeder (took (at phase) (b ∷ []))
  unfolding took
  took-typed FileHeader few a = fills-typed (at FileHeader) b l (omega arith) a
  took-typed FirstHeader few a = fills-typed (at FirstHeader) b l (omega arith) a
  took-typed Desc few a = fills-typed (at Desc) b l (omega arith) a
  took-typed (Header f d) few a = fills-typed (at (Header f d)) b l (omega arith) a
  took-typed (Skipping f d m) few a = record { long = a.long; bytes = a.bytes; phase = skipping-typed f d (m - 1) a.phase }
  took-typed (Edit f size) few a = fills-typed (at (Edit f size)) b l (omega arith) a
  took-typed (OpenData f start) few a = record { long = a.long; bytes = a.bytes; phase = a.phase }
  took-typed (ClosedData f chunk m) few a = record { long = a.long; bytes = a.bytes; phase = passing-typed f chunk (m - 1) a.phase }
  took-typed (Refused number) few a = a

step_typed : (r : Feeder) (b : ℕ) → b < 256 → Sound r → TypedFeeder r → TypedFeeder (step1 r b)
unfolding step1
step_typed r b l s t =
    either TypedFeeder (is_refused r.phase) (λ _. t)
    (λ _. either TypedFeeder (leb file_max r.total) (λ _. record { long = t.long; bytes = t.bytes; phase = omega arith })
    (λ _. took-typed r.held r.count r.total r.chunks b l r.phase s.few t))

pub bytes-typed : (bs : List ℕ) (r : Feeder) → Bytes bs → Sound r → TypedFeeder r → TypedFeeder (feed_bytes r bs)
bytes-typed [] r l s t = t
bytes-typed (b ∷ bs) r l s t = bytes-typed bs (step1 r b) l.1 (step-sound r b s) (step_typed r b l.0 s t)
