-- The rule of kept/specs/Settled holds at any time, and packed samples come back in the byte order that the file gives.
use mathlib.Core.Path.{◌≡◌, refl, sym, ◌∙◌, ap}
use mathlib.Core.Bool.{Bool, true, cond, not}
use mathlib.Core.List.{List, [], ◌∷◌, ◌++◌, append_assoc}
use Prim.Native.Nat.{ℕ, ◌*◌}
use lib.ListN.{length, take, drop}
use lib.Seq.{take_at, drop_at}
use lib.IntN.{ℤ}
use Rattle.format.specs.Flags.{endianness_of, endianness_for}
use Rattle.format.specs.declared.Endianness.{Endianness}
use Rattle.pcm.specs.Packing.{sample_size, packed}
use Rattle.pcm.specs.Unpacking.{unpacked}
use Rattle.pcm.proofs.Packed.{length-packed}
use Rattle.pcm.proofs.RoundTrip.{round-trip-any}
use Rattle.reading.specs.Grammar.{bytes_of}
use Rattle.reading.specs.declared.CAFFileInfo.{CAFFileInfo}
use Rattle.writer.specs.Record.{labels_of}
use Rattle.writer.proofs.Facts.{in-room}
use Rattle.header_bytes.specs.Made.{made}
use Rattle.kept.proofs.SettledKept.{settled-kept, order-given}
use Rattle.recovery.specs.Calls.{Call, samples, TypedCalls}
use Rattle.recovery.specs.Session.{Session, is_accepted, do_call, run}
use Rattle.recovery.specs.Cut.{resting, file_of}
use Rattle.recovery.specs.Sessions.{CutSession, lent_again, remaining_after, begins}
use Rattle.recovery.specs.Demand.{header_chunks}
use Rattle.recovery.specs.Samples.{AlwaysSettled, OneFormat, SamplesFound, SamplesBack}
use Rattle.recovery.proofs.Invariant.{Inv}
use Rattle.recovery.proofs.Formats.{Formats, formats-kept, run-formats}
use Rattle.recovery.proofs.Session.{keeps, runs}
use Rattle.recovery.proofs.Remaining.{begun-by}
use Rattle.recovery.proofs.ReadBack.{audio-there, found-as-written, read_back}
use Rattle.recovery.proofs.Sessions.{begun-inv, begun-formats}
use Rattle.recovery.proofs.Packing.{samples-allowed}
use Rattle.recovery.proofs.Going.{Going, one_more, goes_on}
use Rattle.recovery.proofs.Rule.{Rule, rule-kept}

-- every call keeps the rule
rule-called : (s : Session) → Inv s → Formats s → (call : Call) → Rule s → Rule (do_call s call)
rule-called s i k = rule-kept s (in-room s.writer (length s.buffer) i.is-sound) (settled-kept.header s.writer s.buffer k.now)

rule-runs : (s : Session) → Inv s → Formats s → (calls : List Call) → TypedCalls calls → Rule s → Rule (run s calls)
unfolding run
rule-runs s i k [] t r = r
rule-runs s i k (call ∷ calls) t r = rule-runs (do_call s call) (keeps s call i) (formats-kept s k call t.0) calls t.1 (rule-called s i k call r)

-- a resume makes it hold, whatever was left
rule-begins : (lent : List ℕ) (earlier : List CutSession) → Rule (begins lent earlier)
rule-begins lent [] = settled-kept.fresh lent
rule-begins lent (c ∷ cs) = let r = lent_again (remaining_after (c ∷ cs)) lent in settled-kept.resume r.buffer r.len

pub always-settled : AlwaysSettled
always-settled lent earlier calls t u = rule-runs (begins lent earlier) (begun-inv lent earlier t) (begun-formats lent earlier t) calls u (rule-begins lent earlier)

pub one_format : OneFormat
one_format lent earlier calls t u h =
    let s = run (begins lent earlier) calls in
    let f = (read_back lent earlier calls t u h).found in
    let given = order-given s.writer s.buffer f.info (header_chunks s.at_header) (always-settled lent earlier calls t u) h f.found in
    (given.0 ∙ sym f.bills.format, given.1 ∙ ap endianness_for (sym f.bills.format))

-- what arrived stands after the header
payload-there : (s : Session) → Inv s → s.writer.has_header ≡ true → drop s.writer.data_start (file_of (resting s)) ≡ s.arrived
payload-there s i h =
    let b = begun-by s i h in
    let hd = s.at_header in
    ap (drop s.writer.data_start) b.file
    ∙ ap (λ (n : ℕ). drop n (bytes_of (made (not s.writer.finished) b.f hd.layout (labels_of hd) s.arrived))) b.begins
    ∙ audio-there (not s.writer.finished) b.f hd.layout (labels_of hd) s.arrived

module _ (s : Session) (i : Inv s) (k : Formats s) (r : Rule s) (xs : List ℤ) (calls : List Call) (typed : TypedCalls calls) (a : is_accepted s (samples xs) ≡ true) where
  abbrev last : Session
  last = run (do_call s (samples xs)) calls

  abbrev bs : List ℕ
  bs = packed s.writer.endianness xs

  samples-found : SamplesFound s xs last
  samples-found =
      let g : Going s = record { has-header = (samples-allowed s xs a).as_bytes.header; in-room = in-room s.writer (length s.buffer) i.is-sound } in
      let first = one_more s g (samples xs) in
      let p = goes_on (do_call s (samples xs)) first.goes calls in
      let h = p.goes.has-header in
      let k' = formats-kept s k (samples xs) tt in
      let i' = keeps s (samples xs) i in
      let j = runs (do_call s (samples xs)) calls i' in
      let f = (found-as-written last j (run-formats (do_call s (samples xs)) calls typed k') h).found in
      let given = order-given last.writer last.buffer f.info (header_chunks last.at_header) (rule-runs (do_call s (samples xs)) i' k' calls typed (rule-called s i k (samples xs) r)) h f.found in
      let e : endianness_of f.info.format ≡ s.writer.endianness = sym given.1 ∙ ap (λ (x : CAFFileInfo). x.endianness) (p.said ∙ first.said) in
      let all : last.arrived ≡ s.arrived ++ (bs ++ p.more) =
      p.arrived ∙ ap (λ (b : Bool). (s.arrived ++ cond b bs []) ++ p.more) a ∙ append_assoc s.arrived bs p.more in
      let payload : drop f.info.data_start (file_of (resting last)) ≡ s.arrived ++ (bs ++ p.more) =
      ap (λ (n : ℕ). drop n (file_of (resting last))) (sym given.3) ∙ payload-there last j h ∙ all in
      let there : take (sample_size * length xs) (drop (length s.arrived) (drop f.info.data_start (file_of (resting last)))) ≡ bs =
      ap (λ (x : List ℕ). take (sample_size * length xs) (drop (length s.arrived) x)) payload
      ∙ ap (take (sample_size * length xs)) (drop_at s.arrived (bs ++ p.more) (length s.arrived) refl)
      ∙ take_at bs p.more (sample_size * length xs) (length-packed s.writer.endianness xs) in
      record {
        info = f.info;
        chunks = header_chunks last.at_header;
        found = f.found;
        back =
            ap (unpacked (endianness_of f.info.format)) there
            ∙ ap (λ (x : Endianness). unpacked x bs) e
            ∙ round-trip-any s.writer.endianness xs;
      }

pub samples-back : SamplesBack
samples-back lent earlier before xs after t u v a =
    let s = begins lent earlier in
    samples-found (run s before) (runs s before (begun-inv lent earlier t)) (run-formats s before u (begun-formats lent earlier t))
    (rule-runs s (begun-inv lent earlier t) (begun-formats lent earlier t) before u (rule-begins lent earlier)) xs after v a
