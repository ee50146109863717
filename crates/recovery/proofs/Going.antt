-- A session with a header goes on, whoever wrote that header: what the record says of its file stays, and the audio grows at its end.
use mathlib.Core.Path.{◌≡◌, refl, sym, ◌∙◌, ap}
use mathlib.Core.Bool.{Bool, true, false}
use mathlib.Core.List.{List, [], ◌∷◌, ◌++◌, append-nil, append_assoc}
use Prim.Native.Nat.{ℕ, ◌+◌, ◌≤◌}
use native.Mathlib.Omega.{arith}
use lib.ListN.{length, take, drop}
use lib.Seq.{length-take-le, drop-append-le, drop-drop}
use Rattle.answers.specs.Numbers.{done}
use Rattle.byte_order.specs.Splice.{splice}
use Rattle.byte_order.proofs.Laws.{splice-nil, length-splice}
use Rattle.byte_order.proofs.Places.{rest-kept}
use Rattle.format.specs.Setting.{pcm_format, format_number}
use Rattle.format.specs.declared.PCMDataType.TheVariants.{SignedInteger}
use Rattle.format.specs.declared.Endianness.TheVariants.{BigEndian}
use Rattle.header_bytes.proofs.Within.{take-end, take_within}
use Rattle.layout.specs.Setting.{tag_number, labels_number}
use Rattle.layout.specs.declared.ChannelLayout.TheVariants.{Tagged}
use Rattle.pcm.specs.Packing.{packed}
use Rattle.reading.specs.declared.CAFFileInfo.{CAFFileInfo}
use Rattle.writer.specs.Record.{with_format, with_layout, with_header, with_data, as_finished, with_group}
use Rattle.writer.specs.Outcome.{stores, unchanged}
use Rattle.writer.specs.Header.{header_bytes_of, header_number, header_call}
use Rattle.writer.specs.Data.{data_number, data_call}
use Rattle.writer.specs.Finish.{finish_number, final_size, finish_call}
use Rattle.writer.specs.Settings.{setting_number, first, with_labels, format_call, tag_call, labels_call, configure_call, group_number, group_call}
use Rattle.writer.specs.declared.CAFWriter.{CAFWriter}
use Rattle.writer.proofs.Tests.{true-false}
use Rattle.writer.proofs.Allowed.{header-allowed, data-allowed, finish-sound}
use Rattle.writer.proofs.Facts.{headed as headed-of, sound-alone}
use Rattle.kept.specs.Settled.{said_by}
use Rattle.kept.proofs.KeptSettings.{setting-allowed}
use Rattle.recovery.specs.Calls.{Setting, format, tag, labels, configure, group, Call, set, header, bytes, samples, finish, lend, data_of}
use Rattle.recovery.specs.Session.{Session, outcome_in, do_call, run}
use Rattle.recovery.specs.Cut.{resting, file_of}
use Rattle.recovery.proofs.Doing.{by_call}
use Rattle.recovery.proofs.Packing.{by-samples}
use Rattle.recovery.proofs.Lent.{grown-file, grown-room}

abbrev pub file_now : Session → List ℕ
file_now s = file_of (resting s)

-- it has a header, and its file is in the buffer
pub record Going (s : Session) : Type 0 where
  pub has-header : s.writer.has_header ≡ true
  pub in-room : s.writer.file_len ≤ length s.buffer

-- a later one: with the audio of the earlier one, and what arrived since
pub record Later (s t : Session) : Type 0 where
  pub goes : Going t
  pub said : said_by t.writer ≡ said_by s.writer
  pub more : List ℕ
  pub arrived : t.arrived ≡ s.arrived ++ more
  pub audio : drop s.writer.data_start (file_now t) ≡ drop s.writer.data_start (file_now s) ++ more

pub same : (s : Session) → Going s → Later s s
same s g = record { goes = g; said = refl; more = []; arrived = sym (append-nil s.arrived); audio = sym (append-nil (drop s.writer.data_start (file_now s))) }

pub then : {s t u : Session} → Later s t → Later t u → Later s u
then {s} {t} {u} p q =
    let d = s.writer.data_start in
    let e : d ≡ t.writer.data_start = ap (λ (i : CAFFileInfo). i.data_start) (sym p.said) in
    record {
      goes = q.goes;
      said = q.said ∙ p.said;
      more = p.more ++ q.more;
      arrived = q.arrived ∙ ap (λ (x : List ℕ). x ++ q.more) p.arrived ∙ append_assoc s.arrived p.more q.more;
      audio =
          ap (λ (n : ℕ). drop n (file_now u)) e
          ∙ q.audio
          ∙ ap (λ (n : ℕ). drop n (file_now t) ++ q.more) (sym e)
          ∙ ap (λ (x : List ℕ). x ++ q.more) p.audio
          ∙ append_assoc (drop d (file_now s)) p.more q.more;
    }

-- stores into the size field leave what stands from the data start on, four bytes after the field
pub after-field : (buf : List ℕ) (len p d : ℕ) (vs : List ℕ) → len ≤ length buf → d ≤ len → d ≡ p + length vs + 4
    → drop d (take len (splice buf p vs)) ≡ drop d (take len buf)
after-field buf len p d vs h l e =
    let file = take len buf in
    let n = p + length vs in
    ap (drop d) (take_within buf len p vs h (omega arith))
    ∙ ap (λ (k : ℕ). drop k (splice file p vs)) e
    ∙ sym (drop-drop 4 n (splice file p vs))
    ∙ ap (drop 4) (rest-kept file p vs (omega (arith, length-take-le len buf h)))
    ∙ drop-drop 4 n file
    ∙ ap (λ (k : ℕ). drop k file) (sym e)

module _ (s : Session) (g : Going s) where
  abbrev w : CAFWriter
  w = s.writer

  abbrev start : ℕ
  start = w.data_start

  abbrev buf : List ℕ
  buf = s.buffer

  abbrev room : ℕ
  room = length buf

  -- where a call brings no audio
  quietly : (t : Session) → Going t → said_by t.writer ≡ said_by w → t.arrived ≡ s.arrived ++ [] → drop start (file_now t) ≡ drop start (file_now s) → Later s t
  quietly t h said arrived e = record { goes = h; said = said; more = []; arrived = arrived; audio = e ∙ sym (append-nil (drop start (file_now s))) }

  -- and stores nothing
  unstored : (v hd : CAFWriter) → v.has_header ≡ true → v.file_len ≡ w.file_len → said_by v ≡ said_by w
      → Later s (record { writer = v; buffer = splice buf 0 []; at_header = hd; arrived = s.arrived ++ [] })
  unstored v hd h l said =
      let e = splice-nil buf 0 in
      quietly _ (record { has-header = h; in-room = rw (e, l) g.in-room }) said refl (rw (e, l))

  -- no setting of format or layout is accepted
  no-setting : (number : ℕ) → setting_number w number ≡ done → ⊥
  no-setting number n = true-false (sym g.has-header ∙ (setting-allowed w number n).1)

  by-setting : (x : Setting) → Later s (do_call s (set x))
  unfolding format_call tag_call labels_call configure_call group_call
  by-setting (format rate channels bits t o) =
      by_call s (set (format rate channels bits t o)) (Later s) (setting_number w (format_number rate channels bits o)) (stores 0 [] (with_format w (pcm_format rate channels bits t o) o)) refl refl (same s g)
      (λ n. absurd (no-setting (format_number rate channels bits o) n))
  by-setting (tag t) =
      by_call s (set (tag t)) (Later s) (setting_number w (tag_number t)) (stores 0 [] (with_layout w (Tagged t) [])) refl refl (same s g) (λ n. absurd (no-setting (tag_number t) n))
  by-setting (labels ls channels) =
      by_call s (set (labels ls channels)) (Later s) (setting_number w (labels_number ls channels)) (stores 0 [] (with_labels w ls channels)) refl refl (same s g)
      (λ n. absurd (no-setting (labels_number ls channels) n))
  by-setting (configure rate channels bits ls) =
      let v = with_format w (pcm_format rate channels bits SignedInteger BigEndian) BigEndian in
      let number = first (format_number rate channels bits BigEndian) (labels_number ls channels) in
      by_call s (set (configure rate channels bits ls)) (Later s) (setting_number w number) (stores 0 [] (with_labels v ls channels)) refl refl (same s g)
      (λ n. absurd (no-setting number n))
  by-setting (group k) =
      by_call s (set (group k)) (Later s) (group_number w) (stores 0 [] (with_group w k)) refl refl (same s g)
      (λ n. unstored (with_group w k) s.at_header g.has-header refl refl)

  -- a header there is: no other is written
  pub no-header : header_number w room ≡ done → ⊥
  no-header n = true-false (sym g.has-header ∙ (header-allowed w room n).no-header)

  by-header : Later s (do_call s header)
  unfolding header_call
  by-header = by_call s header (Later s) (header_number w room) (stores 0 (header_bytes_of w) (with_header w (length (header_bytes_of w)))) refl refl (same s g) (λ n. absurd (no-header n))

  -- bytes at the end of the file
  by-data : (call : Call) (bs : List ℕ) → outcome_in s call ≡ data_call w room bs → data_of call w ≡ bs → Later s (do_call s call)
  unfolding data_call
  by-data call bs is brings =
      by_call s call (Later s) (data_number w room (length bs)) (stores w.file_len bs (with_data w (length bs))) refl is (same s g)
      (λ n.
      let a = data-allowed w room (length bs) n in
      let d = headed-of w a.header (sound-alone w room a.is-sound).places in
      let l : start ≤ length (file_now s) = omega (arith, d.to, length-take-le w.file_len buf g.in-room) in
      record {
        goes = record { has-header = g.has-header; in-room = rw (length-splice buf w.file_len bs a.in-room) a.in-room };
        said = refl;
        more = bs;
        arrived = ap (λ (x : List ℕ). s.arrived ++ x) brings;
        audio = ap (drop start) (take-end buf w.file_len bs g.in-room) ∙ drop-append-le start (file_now s) bs l;
      })

  by-finish : Later s (do_call s finish)
  unfolding finish_call
  by-finish = go w.finished refl
    where
      go : (b : Bool) → w.finished ≡ b → Later s (do_call s finish)
      go true f = by_call s finish (Later s) (finish_number w room) (unchanged done w) refl (rw f) (same s g) (λ n. unstored w s.at_header g.has-header refl refl)
      go false f =
          by_call s finish (Later s) (finish_number w room) (stores w.size_position (final_size w) (as_finished w)) refl (rw f) (same s g)
          (λ n.
          let d = headed-of w g.has-header (sound-alone w room (finish-sound w room n)).places in
          let z : length (splice buf w.size_position (final_size w)) ≡ room = length-splice buf w.size_position (final_size w) (omega (arith, d.apart, d.to, g.in-room)) in
          quietly _ (record { has-header = g.has-header; in-room = rw z g.in-room }) refl refl
          (after-field buf w.file_len w.size_position start (final_size w) g.in-room d.to (omega (arith, d.apart))))

  by-lending : (more : List ℕ) → Later s (do_call s (lend more))
  by-lending more =
      quietly _ (record { has-header = g.has-header; in-room = grown-room w.file_len buf more g.in-room }) refl refl
      (ap (drop start) (grown-file w.file_len buf more g.in-room))

  pub one_more : (call : Call) → Later s (do_call s call)
  one_more (set x) = by-setting x
  one_more header = by-header
  one_more (bytes bs) = by-data (bytes bs) bs refl refl
  one_more (samples xs) = by-samples s xs (Later s) (same s g) (λ e. by-data (samples xs) (packed w.endianness xs) e refl)
  one_more finish = by-finish
  one_more (lend more) = by-lending more

pub goes_on : (s : Session) → Going s → (calls : List Call) → Later s (run s calls)
unfolding run
goes_on s g [] = same s g
goes_on s g (call ∷ calls) = let p = one_more s g call in then p (goes_on (do_call s call) p.goes calls)
