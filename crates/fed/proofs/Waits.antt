-- The refusals that wait for the end are not in the bytes: with others after them the strict reading answers otherwise.
use Rattle.std.proofs.Common.{Option, Some, None}
use mathlib.Core.Path.{◌≡◌, refl, sym, ◌∙◌, ap}
use mathlib.Core.Bool.{true, false, not, true≢false}
use mathlib.Core.List.{List, [], ◌++◌, append-nil}
use Prim.Native.Nat.{ℕ, ◌+◌, ◌-◌, ◌<◌, ◌≤◌}
use native.Mathlib.Omega.{arith}
use lib.ListN.{length, drop, replicate, length-append, length-replicate}
use lib.Seq.{drop-append_seam}
use lib.Dec.{ltb, eqb}
use borrow.Author.Tests.{eq-eqb}
use Rattle.answers.specs.Numbers.{file_max}
use Rattle.byte_order.specs.Splice.{splice}
use Rattle.format.specs.declared.AudioFormat.{AudioFormat}
use Rattle.reading.specs.Types.{'caff', version, edit_size}
use Rattle.reading.specs.Step.{stands_at, bad_rate_at}
use Rattle.reading.specs.Rules.{is_open_size}
use Rattle.reading.specs.Strict.{strict}
use Rattle.reading.specs.Answers.{strict_number, strict_count}
use Rattle.reading.specs.Shapes.{StrictAnswer, Rejected}
use Rattle.reading.proofs.Choice.{either}
use Rattle.feeder.specs.Record.{fresh, piece_size, is_by_bytes}
use Rattle.feeder.specs.End.{header_end, chunk_end, end_as, end_of}
use Rattle.feeder.specs.declared.Phase.{Phase}
use Rattle.feeder.specs.declared.Phase.TheVariants.{FileHeader, FirstHeader, Desc, Header, Skipping, Edit, OpenData, ClosedData, Refused}
use Rattle.feeder.specs.declared.DataChunk.{DataChunk}
use Rattle.feeder.specs.declared.Feeder.{Feeder}
use Rattle.judging.specs.Judge.{begun_data, judged}
use Rattle.feeding.specs.Feed.{counted, collected, took, is_refused, feed_bytes}
use Rattle.feeding.specs.Turns.{wanted}
use Rattle.feeding.proofs.Turns.{from, Collects, took-piece}
use Rattle.fed.specs.Claims.{WaitsForEnd}
use Rattle.fed.proofs.At.{At}
use Rattle.fed.proofs.Follow.{bytes_on}
use Rattle.fed.proofs.Whole.{part-follows, end_is, bytes-strict}

-- an answer has the record's count of headers
header-count : (n k : ℕ) → strict_count (header_end n k) ≡ k
header-count n k = either (λ (x : StrictAnswer). strict_count x ≡ k) (ltb n 4) (λ _. refl) (λ _. refl)

chunk_count : (n k : ℕ) (f : AudioFormat) (d : Option DataChunk) → strict_count (chunk_end n k f d) ≡ k
chunk_count n k f None = header-count n k
chunk_count n k f (Some chunk) = either (λ (x : StrictAnswer). strict_count x ≡ k) (eqb n 0) (λ _. refl) (λ _. refl)

end-count : (n t k : ℕ) (phase : Phase) → strict_count (end_as n t k phase) ≡ k
end-count n t k FileHeader = refl
end-count n t k FirstHeader = header-count n k
end-count n t k Desc = refl
end-count n t k (Header f d) = chunk_count n k f d
end-count n t k (Skipping f d m) = refl
end-count n t k (Edit f size) = refl
end-count n t k (OpenData f start) = refl
end-count n t k (ClosedData f chunk m) = refl
end-count n t k (Refused number) = refl

-- a piece that these bytes make whole
whole_is : (phase : Phase) (h : List ℕ) (n t k : ℕ) (cs : List ℕ) → Collects phase → n + length cs ≡ piece_size phase
    → took (from phase h n t k) cs ≡ from (judged (splice h n cs) (t + length cs) phase) (splice h n cs) 0 (t + length cs) (counted k phase)
unfolding collected
whole_is phase h n t k cs c e = took-piece phase h n t k cs c ∙ (let w : eqb (n + length cs) (piece_size phase) ≡ true = eq-eqb (n + length cs) (piece_size phase) e in rw w)

abbrev Not : ℕ → StrictAnswer → Type 0
Not number a = strict_number a ≡ number → ⊥

file-after : (h : List ℕ) (t k : ℕ) → Not 1 (end_as 0 t k (judged h t FileHeader))
unfolding judged
file-after h t k =
    let P : Phase → Type 0 = λ x. Not 1 (end_as 0 t k x) in
    either P (not (stands_at h 0 'caff')) (λ _ e. omega arith)
    (λ _. either P (not (stands_at h 4 version)) (λ _ e. omega arith) (λ _ e. omega arith))

desc-after : (h : List ℕ) (t k : ℕ) → Not 1 (end_as 0 t k (judged h t Desc))
unfolding judged
desc-after h t k =
    let P : Phase → Type 0 = λ x. Not 1 (end_as 0 t k x) in
    either P (bad_rate_at h 0) (λ _ e. omega arith) (λ _ e. omega arith)

edit-after : (f : AudioFormat) (size start t k : ℕ) → Not 1 (end_as 0 t k (begun_data f size start))
edit-after f size start t k =
    let P : Phase → Type 0 = λ x. Not 1 (end_as 0 t k x) in
    either P (is_open_size size) (λ _ e. omega arith)
    (λ _. either P (eqb (size - edit_size) 0) (λ _ e. omega arith) (λ _ e. omega arith))

-- after a whole body no cut is met, nor data that run past the end
chunk-after : (k number : ℕ) (f : AudioFormat) (d : Option DataChunk) → (number ≡ 0 → ⊥) → (number ≡ 3 → ⊥) → Not number (chunk_end 0 k f d)
chunk-after k number f None z n e = n (sym e)
chunk-after k number f (Some chunk) z n e = z (sym e)

-- with bytes after s that its phase can take: the answer is what the record tells then
abbrev Tells : List ℕ → List ℕ → ℕ → ℕ → ℕ → Phase → Type 0
Tells s h n t k phase =
    (more : List ℕ) (have : ℕ) → is_refused phase ≡ false → 0 < length more → length more ≤ wanted n have phase
    → end_of (took (from phase h n t k) more) ≡ strict (s ++ more)

tells : (s : List ℕ) → length s ≤ file_max → (more : List ℕ) (have : ℕ) → is_refused (feed_bytes fresh s).phase ≡ false → 0 < length more
    → length more ≤ wanted (feed_bytes fresh s).count have (feed_bytes fresh s).phase → end_of (took (feed_bytes fresh s) more) ≡ strict (s ++ more)
tells s short more have x some l =
    let r : Feeder = feed_bytes fresh s in
    let a = part-follows (s ++ more) s more refl short in
    let e : drop (length s) (s ++ more) ≡ more ++ [] = drop-append_seam s more ∙ sym (append-nil more) in
    let b = bytes_on (s ++ more) (length s) more [] a.within e have r x some l a in
    end_is (s ++ more) (took r more) (rw (← length-append s more) at b)

abbrev zeros : ℕ → List ℕ
zeros n = replicate n 0

zeros-length : (n : ℕ) → length (zeros n) ≡ n
zeros-length n = length-replicate n 0

module _ (s : List ℕ) (number k : ℕ) (h : List ℕ) (n t j : ℕ) where
  abbrev Other : Type 0
  Other = (more : List ℕ) × (strict (s ++ more) ≡ Rejected number k → ⊥)

  -- the answer with these bytes has another number, or another count
  by_number : (more : List ℕ) (a : StrictAnswer) → a ≡ strict (s ++ more) → Not number a → Other
  by_number more a e g = (more, λ f. g (ap strict_number (e ∙ f)))

  by_count : (more : List ℕ) (a : StrictAnswer) → a ≡ strict (s ++ more) → (strict_count a ≡ k → ⊥) → Other
  by_count more a e g = (more, λ f. g (ap strict_count (e ∙ f)))

  -- the rest of a piece, whatever it is
  fill : Phase → List ℕ
  fill phase = zeros (piece_size phase - n)

  filled : (phase : Phase) → Collects phase → is_refused phase ≡ false → n < piece_size phase → wanted n 0 phase ≡ piece_size phase - n → Tells s h n t j phase
      → end_as 0 (t + length (fill phase)) (counted j phase) (judged (splice h n (fill phase)) (t + length (fill phase)) phase) ≡ strict (s ++ fill phase)
  unfolding fill
  filled phase c x l want g =
      let z = zeros-length (piece_size phase - n) in
      sym (ap end_of (whole_is phase h n t j (fill phase) c (omega arith))) ∙ g (fill phase) 0 x (omega arith) (omega arith)

  -- a whole header is one more
  one_more : (phase : Phase) → Collects phase → is_refused phase ≡ false → n < piece_size phase → wanted n 0 phase ≡ piece_size phase - n → counted j phase ≡ j + 1 → j ≡ k
      → Tells s h n t j phase → Other
  one_more phase c x l want u v g =
      let i = end-count 0 (t + length (fill phase)) (counted j phase) (judged (splice h n (fill phase)) (t + length (fill phase)) phase) in
      by_count (fill phase) (end_as 0 (t + length (fill phase)) (counted j phase) (judged (splice h n (fill phase)) (t + length (fill phase)) phase))
      (filled phase c x l want g) (λ f. let w : counted j phase ≡ k = sym i ∙ f in omega arith)

  header_is : header_end n j ≡ Rejected number k → j ≡ k
  header_is e = sym (header-count n j) ∙ ap strict_count e

  chunk-is : (f : AudioFormat) (d : Option DataChunk) → chunk_end n j f d ≡ Rejected number k → j ≡ k
  chunk-is f d e = sym (chunk_count n j f d) ∙ ap strict_count e

  -- a body that is passed over, and closed data
  skip-other : (f : AudioFormat) (d : Option DataChunk) (m : ℕ) → Tells s h n t j (Skipping f d m) → n ≡ 0 → 0 < m → number ≡ 1 → Other
  unfolding took
  skip-other f d m g z l i =
      let q = zeros-length m in
      let w : eqb (m - length (zeros m)) 0 ≡ true = eq-eqb (m - length (zeros m)) 0 (omega arith) in
      let o = g (zeros m) 0 refl (omega arith) (omega arith) in
      let u : chunk_end 0 j f d ≡ strict (s ++ zeros m) = rw (w, z) at o in
      by_number (zeros m) (chunk_end 0 j f d) u (chunk-after j number f d (λ e. omega arith) (λ e. omega arith))

  closed-other : (f : AudioFormat) (c : DataChunk) (m : ℕ) → Tells s h n t j (ClosedData f c m) → n ≡ 0 → 0 < m → number ≡ 8 → Other
  unfolding took
  closed-other f c m g z l i =
      let q = zeros-length m in
      let w : eqb (m - length (zeros m)) 0 ≡ true = eq-eqb (m - length (zeros m)) 0 (omega arith) in
      let o = g (zeros m) 0 refl (omega arith) (omega arith) in
      let u : chunk_end 0 j f (Some c) ≡ strict (s ++ zeros m) = rw (w, z) at o in
      by_number (zeros m) (chunk_end 0 j f (Some c)) u (chunk-after j number f (Some c) (λ e. omega arith) (λ e. omega arith))

  other : (phase : Phase) → Tells s h n t j phase → At s (length s) h n j phase → (is_refused phase ≡ false → t ≡ length s) → end_as n t j phase ≡ Rejected number k → is_by_bytes number ≡ false → Other
  unfolding judged
  other FileHeader g a y e b =
      by_number (fill FileHeader) _ (filled FileHeader (omega arith) refl a.few refl g) (λ f. file-after (splice h n (fill FileHeader)) (t + length (fill FileHeader)) j (f ∙ sym (ap strict_number e)))
  other FirstHeader g a y e b = one_more FirstHeader (omega arith) refl a.few refl refl (header_is e) g
  other Desc g a y e b =
      by_number (fill Desc) _ (filled Desc (omega arith) refl a.few refl g) (λ f. desc-after (splice h n (fill Desc)) (t + length (fill Desc)) j (f ∙ sym (ap strict_number e)))
  other (Header f d) g a y e b = one_more (Header f d) (omega arith) refl a.few refl refl (chunk-is f d e) g
  other (Skipping f d m) g a y e b = skip-other f d m g a.none a.some (sym (ap strict_number e))
  other (Edit f size) g a y e b =
      by_number (fill (Edit f size)) _ (filled (Edit f size) (omega arith) refl a.few refl g) (λ i. edit-after f size (t + length (fill (Edit f size))) (t + length (fill (Edit f size))) j (i ∙ sym (ap strict_number e)))
  other (OpenData f start) g a y e b = absurd (let z : ◌≡◌ {A = ℕ} 0 1 = cc in omega arith)
  other (ClosedData f chunk m) g a y e b = closed-other f chunk m g a.none a.some (sym (ap strict_number e))
  other (Refused m) g a y e b = let i : m ≡ number = cc in absurd (true≢false (sym a.1 ∙ ap is_by_bytes i ∙ b))

pub waits-for-end : WaitsForEnd
waits-for-end s number k short e b =
    let r : Feeder = feed_bytes fresh s in
    let a = part-follows s s [] (sym (append-nil s)) short in
    other s number k r.held r.count r.total r.chunks r.phase (tells s short) a.at a.total (bytes-strict s short ∙ e) b
