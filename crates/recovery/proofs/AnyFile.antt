-- What is appended to a file that was resumed goes by its own `desc`.
use Rattle.std.proofs.Common.{Option, Some, None}
use mathlib.Core.Path.{◌≡◌, refl, sym, ◌∙◌, ap}
use mathlib.Core.List.{List, ◌++◌, append_assoc}
use Prim.Native.Nat.{ℕ, ◌+◌, ◌≤◌}
use native.Mathlib.Omega.{arith}
use lib.ListN.{length, take, drop, length-drop}
use lib.Seq.{take_at, drop_at, drop-drop, drop-append-le, length-take-le}
use Rattle.answers.specs.Numbers.{done}
use Rattle.byte_order.specs.Splice.{splice}
use Rattle.byte_order.proofs.Laws.{length-splice}
use Rattle.format.specs.Flags.{endianness_of, endianness_for}
use Rattle.format.specs.declared.AudioFormat.{AudioFormat}
use Rattle.format.specs.declared.Endianness.{Endianness}
use Rattle.pcm.specs.Packing.{packed}
use Rattle.pcm.specs.Unpacking.{unpacked}
use Rattle.pcm.proofs.Packed.{length-packed}
use Rattle.pcm.proofs.RoundTrip.{round-trip-any}
use Rattle.reading.specs.Plain.{plain}
use Rattle.reading.specs.declared.CAFFileInfo.{CAFFileInfo}
use Rattle.reading.specs.Shapes.{Found}
use Rattle.writer.specs.Outcome.{Outcome, buffer_after}
use Rattle.writer.specs.Resume.{resumed, open_field, resume_call}
use Rattle.writer.specs.declared.CAFWriter.{CAFWriter}
use Rattle.writer.proofs.Facts.{headed as headed-of, sound-alone}
use Rattle.writer.proofs.Heads.{present}
use Rattle.writer.proofs.Reopening.{reopens}
use Rattle.kept.specs.Settled.{said_by}
use Rattle.kept.proofs.SettledKept.{settled-kept, order-given, order_is}
use Rattle.recovery.specs.Calls.{samples}
use Rattle.recovery.specs.Session.{Session, do_call, run}
use Rattle.recovery.specs.AnyFile.{resumed_in, samples_in, AppendsInOrder}
use Rattle.recovery.proofs.Going.{file_now, Going, Later, then, after-field, one_more, goes_on}
use Rattle.recovery.proofs.Packing.{samples-allowed}
use Rattle.recovery.proofs.Rule.{Rule, rule-once-more, rule-goes-on}

-- a session that begins with an accepted resume goes on, and its record says what the plain reading gives of the file
record Begins (buffer : List ℕ) (len : ℕ) : Type 0 where
  pub goes : Going (resumed_in buffer len)
  pub info : CAFFileInfo
  pub chunks : ℕ
  pub found : plain (take len buffer) ≡ Found info chunks
  pub said : said_by (resumed_in buffer len).writer ≡ info
  pub audio : drop info.data_start (file_now (resumed_in buffer len)) ≡ drop info.data_start (take len buffer)

begins : (buffer : List ℕ) (len : ℕ) → (resume_call buffer len).number ≡ done → Begins buffer len
begins buffer len h =
    let r = reopens buffer len h in
    let o = r.opened in
    let w = (resumed buffer len).writer in
    let after : (resume_call buffer len).after ≡ w = ap (λ (x : Outcome). x.after) r.is in
    let room : w.size_position + 8 ≤ length buffer = omega (arith, r.places.apart, r.places.to, o.len_is, o.in-room) in
    let long : length (resumed_in buffer len).buffer ≡ length buffer =
    ap (λ (x : Outcome). length (buffer_after x buffer)) r.is ∙ length-splice buffer w.size_position open_field room in
    let l : (resume_call buffer len).after.file_len ≡ len = ap (λ (v : CAFWriter). v.file_len) after ∙ o.len_is in
    let said : said_by w ≡ o.reads.0 = ap said_by o.reads.3 in
    let start : o.reads.0.data_start ≡ w.data_start = ap (λ (i : CAFFileInfo). i.data_start) (sym said) in
    let d : o.reads.0.data_start ≡ w.size_position + 8 + 4 = omega (arith, start, r.places.apart) in
    record {
      goes = record { has-header = ap (λ (v : CAFWriter). v.has_header) after ∙ o.has-header; in-room = omega (arith, l, long, o.in-room) };
      info = o.reads.0;
      chunks = o.reads.1;
      found = o.reads.2;
      said = ap said_by after ∙ said;
      audio =
          ap (λ (x : Outcome). drop o.reads.0.data_start (take x.after.file_len (buffer_after x buffer))) r.is
          ∙ ap (λ (n : ℕ). drop o.reads.0.data_start (take n (splice buffer w.size_position open_field))) o.len_is
          ∙ after-field buffer len w.size_position o.reads.0.data_start open_field o.in-room (omega (arith, start, r.places.to, o.len_is)) d;
    }

-- bytes at the end of the file of s stay where they are
module _ (s t u : Session) (bs : List ℕ) (appended : file_now t ≡ file_now s ++ bs) (said : said_by t.writer ≡ said_by s.writer) (from : s.writer.data_start ≤ length (file_now s)) where
  pub stays : Later t u → take (length bs) (drop (length (file_now s)) (file_now u)) ≡ bs
  stays p =
      let d = s.writer.data_start in
      let e : t.writer.data_start ≡ d = ap (λ (i : CAFFileInfo). i.data_start) said in
      let old = drop d (file_now s) in
      let n : length (file_now s) ≡ d + length old = rw length-drop (omega arith) in
      let audio : drop d (file_now u) ≡ old ++ (bs ++ p.more) =
      ap (λ (k : ℕ). drop k (file_now u)) (sym e)
      ∙ p.audio
      ∙ ap (λ (k : ℕ). drop k (file_now t) ++ p.more) e
      ∙ ap (λ (x : List ℕ). drop d x ++ p.more) appended
      ∙ ap (λ (x : List ℕ). x ++ p.more) (drop-append-le d (file_now s) bs from)
      ∙ append_assoc old bs p.more in
      ap (λ (k : ℕ). take (length bs) (drop k (file_now u))) n
      ∙ ap (take (length bs)) (sym (drop-drop (length old) d (file_now u)))
      ∙ ap (λ (x : List ℕ). take (length bs) (drop (length old) x)) audio
      ∙ ap (take (length bs)) (drop_at old (bs ++ p.more) (length old) refl)
      ∙ take_at bs p.more (length bs) refl

same_format : (m : Option AudioFormat) (f g : AudioFormat) → m ≡ Some f → m ≡ Some g → f ≡ g
same_format m f g p q = ap held (sym p ∙ q)
  where
    held : Option AudioFormat → AudioFormat
    held (Some x) = x
    held None = f

pub appends-in-order : AppendsInOrder
appends-in-order buffer len before xs after h a =
    let b = begins buffer len h in
    let s = run (resumed_in buffer len) before in
    let t = do_call s (samples xs) in
    let u = run t after in
    let p = goes_on (resumed_in buffer len) b.goes before in
    let q = one_more s p.goes (samples xs) in
    let r = goes_on t q.goes after in
    let ok = samples-allowed s xs a in
    let w = s.writer in
    let alone = sound-alone w (length s.buffer) ok.as_bytes.is-sound in
    let is = present w.format ok.present in
    let f = is.0 in
    let said : said_by w ≡ b.info = p.said ∙ b.said in
    let described : b.info.format ≡ Some f = ap (λ (i : CAFFileInfo). i.format) (sym said) ∙ is.1 in
    let order : w.endianness ≡ endianness_of f = order_is w alone.format ∙ ap endianness_for is.1 in
    let packs : packed w.endianness xs ≡ packed (endianness_of f) xs = ap (λ (e : Endianness). packed e xs) order in
    let long : length (file_now s) ≡ w.file_len = length-take-le w.file_len s.buffer p.goes.in-room in
    let from : w.data_start ≤ length (file_now s) = omega (arith, long, (headed-of w p.goes.has-header alone.places).to) in
    let rule : Rule u = rule-goes-on t q.goes after (rule-once-more s p.goes (samples xs) (rule-goes-on (resumed_in buffer len) b.goes before (settled-kept.resume buffer len))) in
    let reads = rule r.goes.has-header in
    let all = then p (then q r) in
    let from_start : (resumed_in buffer len).writer.data_start ≡ b.info.data_start = ap (λ (i : CAFFileInfo). i.data_start) b.said in
    let now : said_by u.writer ≡ b.info = r.said ∙ q.said ∙ said in
    let there : samples_in s xs u ≡ packed (endianness_of f) xs =
    ap (λ (n : ℕ). take n (drop (length (file_now s)) (file_now u))) (sym (length-packed w.endianness xs)) ∙ stays s t u (packed w.endianness xs) ok.appended q.said from r ∙ packs in
    record {
      info = b.info;
      chunks = b.chunks;
      format = f;
      found = b.found;
      described = described;
      appended = ok.appended ∙ ap (λ (x : List ℕ). file_now s ++ x) packs;
      there = there;
      audio =
          ap (λ (n : ℕ). drop n (file_now u)) (sym from_start)
          ∙ all.audio
          ∙ ap (λ (n : ℕ). drop n (file_now (resumed_in buffer len)) ++ all.more) from_start
          ∙ ap (λ (x : List ℕ). x ++ all.more) b.audio
          ∙ ap (λ (x : List ℕ). drop b.info.data_start (take len buffer) ++ x) (sym all.arrived);
      still = (reads.0, reads.1 ∙ ap (λ (i : CAFFileInfo). Found i reads.0) now);
      back = ap (unpacked (endianness_of f)) there ∙ round-trip-any (endianness_of f) xs;
      by-strict = λ v k e.
          let given = order-given u.writer u.buffer v k rule r.goes.has-header e in
          let d : w.data_start ≡ v.data_start = ap (λ (i : CAFFileInfo). i.data_start) (said ∙ sym now) ∙ given.3 in
          (same_format u.writer.format v.format f given.0 (ap (λ (i : CAFFileInfo). i.format) now ∙ described), omega (arith, d, from));
    }
