-- Bytes beyond the longest file.
use Rattle.std.proofs.Common.{Option, Some, None}
use mathlib.Core.Path.{◌≡◌, refl, sym, ◌∙◌, ap}
use mathlib.Core.Bool.{Bool, true, false, true≢false}
use mathlib.Core.List.{List, [], ◌∷◌, foldl-append, append-nil}
use Prim.Native.Nat.{ℕ, ◌<◌}
use native.Mathlib.Omega.{arith}
use lib.ListN.{length, take, drop, take-append-drop, length-drop}
use lib.Seq.{length-take-le}
use lib.Dec.{ltb, eqb}
use Rattle.answers.specs.Numbers.{too_long, file_max}
use Rattle.format.specs.declared.AudioFormat.{AudioFormat}
use Rattle.reading.specs.Strict.{strict}
use Rattle.reading.specs.Shapes.{StrictAnswer, Rejected}
use Rattle.reading.proofs.Choice.{either}
use Rattle.feeder.specs.Record.{fresh}
use Rattle.feeder.specs.End.{header_end, chunk_end, end_as, end_of}
use Rattle.feeder.specs.declared.Phase.{Phase}
use Rattle.feeder.specs.declared.Phase.TheVariants.{FileHeader, FirstHeader, Desc, Header, Skipping, Edit, OpenData, ClosedData, Refused}
use Rattle.feeder.specs.declared.DataChunk.{DataChunk}
use Rattle.feeder.specs.declared.Feeder.{Feeder}
use Rattle.feeding.specs.Feed.{is_refused, step1, feed_bytes}
use Rattle.feeding.proofs.Step.{refused-bytes, over}
use Rattle.fed.specs.Answer.{cut_off}
use Rattle.fed.proofs.At.{At, Follows}
use Rattle.fed.proofs.Whole.{part-follows, end_is}

-- no answer that waits for the end is one that the bytes give
header-off : (n k : ℕ) → cut_off (header_end n k) ≡ Rejected too_long k
header-off n k = either (λ (x : StrictAnswer). cut_off x ≡ Rejected too_long k) (ltb n 4) (λ _. refl) (λ _. refl)

chunk-off : (n k : ℕ) (f : AudioFormat) (d : Option DataChunk) → cut_off (chunk_end n k f d) ≡ Rejected too_long k
chunk-off n k f None = header-off n k
chunk-off n k f (Some chunk) = either (λ (x : StrictAnswer). cut_off x ≡ Rejected too_long k) (eqb n 0) (λ _. refl) (λ _. refl)

pub off : (n t k : ℕ) (phase : Phase) → is_refused phase ≡ false → cut_off (end_as n t k phase) ≡ Rejected too_long k
off n t k FileHeader e = refl
off n t k FirstHeader e = header-off n k
off n t k Desc e = refl
off n t k (Header f d) e = chunk-off n k f d
off n t k (Skipping f d m) e = refl
off n t k (Edit f size) e = refl
off n t k (OpenData f start) e = refl
off n t k (ClosedData f chunk m) e = refl
off n t k (Refused number) e = absurd (true≢false e)

-- and a refusal that the bytes gave stays
given : (s : List ℕ) (i : ℕ) (h : List ℕ) (n t k : ℕ) (phase : Phase) → is_refused phase ≡ true → At s i h n k phase → cut_off (end_as n t k phase) ≡ end_as n t k phase
given s i h n t k FileHeader e a = absurd (true≢false (sym e))
given s i h n t k FirstHeader e a = absurd (true≢false (sym e))
given s i h n t k Desc e a = absurd (true≢false (sym e))
given s i h n t k (Header f d) e a = absurd (true≢false (sym e))
given s i h n t k (Skipping f d m) e a = absurd (true≢false (sym e))
given s i h n t k (Edit f size) e a = absurd (true≢false (sym e))
given s i h n t k (OpenData f start) e a = absurd (true≢false (sym e))
given s i h n t k (ClosedData f chunk m) e a = absurd (true≢false (sym e))
given s i h n t k (Refused number) e a = rw a.1

module _ (s : List ℕ) (long : file_max < length s) where
  abbrev up_to : List ℕ
  up_to = take file_max s

  all_of : length up_to ≡ file_max
  all_of = length-take-le file_max s (omega arith)

  abbrev reached : Feeder
  reached = feed_bytes fresh up_to

  follows : Follows up_to (length up_to) reached
  follows = part-follows up_to up_to [] (sym (append-nil up_to)) (omega (arith, all_of))

  after : (more : List ℕ) → 0 < length more → end_of (feed_bytes reached more) ≡ cut_off (end_of reached)
  after [] l = absurd (let z : ⊥ = omega arith in z)
  after (b ∷ rest) l = by (is_refused reached.phase) refl
    where
      by : (x : Bool) → is_refused reached.phase ≡ x → end_of (feed_bytes reached (b ∷ rest)) ≡ cut_off (end_of reached)
      by true x =
          ap end_of (refused-bytes (b ∷ rest) reached x)
          ∙ sym (given up_to (length up_to) reached.held reached.count reached.total reached.chunks reached.phase x follows.at)
      by false x =
          ap end_of (over reached b rest x (follows.total x ∙ all_of))
          ∙ sym (off reached.count reached.total reached.chunks reached.phase x)

  pub bytes-long : end_of (feed_bytes fresh s) ≡ cut_off (strict up_to)
  bytes-long =
      ap (λ (x : List ℕ). end_of (feed_bytes fresh x)) (sym (take-append-drop file_max s))
      ∙ ap end_of (foldl-append step1 fresh up_to (drop file_max s))
      ∙ after (drop file_max s) (rw length-drop (omega arith))
      ∙ ap cut_off (end_is up_to reached follows)
