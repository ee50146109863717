-- Our writer's layouts are read back.
use mathlib.Core.Path.{◌≡◌, refl, sym, ◌∙◌, ap, subst}
use mathlib.Core.Bool.{Bool, true, false, cond, not}
use mathlib.Core.List.{List, [], ◌∷◌}
use mathlib.Core.Option.{Option}
use Prim.Native.Nat.{ℕ, ◌+◌, ◌<◌, ◌≤◌}
use native.Mathlib.Omega.{arith}
use lib.ListN.{length, take, length-take}
use lib.Dec.{leb}
use borrow.Author.Tests.{leb-true}
use Rattle.format.specs.declared.AudioFormat.{AudioFormat}
use Rattle.layout.specs.Known.{known_tag, are_known}
use Rattle.layout.specs.Setting.{label_places}
use Rattle.layout.specs.Tags as tag
use Rattle.layout.specs.declared.ChannelLayout.{ChannelLayout}
use Rattle.layout.specs.declared.ChannelLayout.TheVariants.{NoLayout, Tagged, Described}
use Rattle.reading.specs.Types.{edit_size, negative}
use Rattle.reading.specs.Grammar.{bytes_of}
use Rattle.chan_reading.specs.First.{first_chan, says_of}
use Rattle.chan_reading.proofs.Small.{tag_small}
use Rattle.chan_reading.proofs.ReadBack.{chan-read-back}
use Rattle.chan_reading.proofs.Theorems.{sought-is-first}
use Rattle.chan_reading.proofs.FoundFirst.{found-is-first}
use Rattle.refusals.specs.Sound.{layout_sound_as}
use Rattle.writer.specs.Record.{labels_of, with_header}
use Rattle.writer.specs.Sound.{layout_sound}
use Rattle.header_bytes.specs.Made.{layout_chunks, made}
use Rattle.writer.specs.Outcome.{stores}
use Rattle.writer.specs.Header.{header_bytes_of, header_number, header_call}
use Rattle.writer.specs.declared.CAFWriter.{CAFWriter}
use Rattle.writer.proofs.Tests.{two}
use Rattle.writer.proofs.Facts.{headed as headed-of, sound-alone}
use Rattle.writer.proofs.Allowed.{header-allowed}
use Rattle.header_bytes.proofs.Made.{made-allowed}
use Rattle.recovery.specs.Calls.{Call, set, header, bytes, samples, finish, lend}
use Rattle.recovery.specs.Session.{Session, start, is_accepted, do_call, run}
use Rattle.recovery.specs.Cut.{Remains, stopped, resting, file_of}
use Rattle.recovery.specs.Sessions.{CutSession, is_written, leaves, lent_again, resume_cut, resumed_from, after_the_first, after_next, after_more, remaining_after, begins}
use Rattle.recovery.specs.Layouts.{body_of, ReadAs, SaysLayout, channels_in, SaysLayoutOf, LayoutReadBack, LayoutRecovered}
use Rattle.recovery.proofs.Invariant.{Inv}
use Rattle.recovery.proofs.Session.{runs}
use Rattle.recovery.proofs.Session.{begins as begins-inv}
use Rattle.recovery.proofs.Doing.{outcome-is}
use Rattle.recovery.proofs.Makes.{Makes, fit-makes}
use Rattle.recovery.proofs.Formats.{Formats, run-formats}
use Rattle.recovery.proofs.Sessions.{begun-inv, begun-formats}
use Rattle.recovery.proofs.Uncut.{finished-headed}
use Rattle.recovery.proofs.Remaining.{begun-by}
use Rattle.recovery.proofs.NeverCut.{never-cut}

-- a layout that a sound record holds: a known tag, or known labels, no more than have places
abbrev Known : ChannelLayout → List ℕ → Type 0
Known NoLayout ls = Unit {0}
Known (Tagged t) ls = known_tag t ≡ true
Known Described ls = (length ls ≤ label_places) × (are_known ls ≡ true)

abbrev KnownIn : CAFWriter → Type 0
KnownIn w = Known w.layout (labels_of w)

sound-known : (w : CAFWriter) → layout_sound w ≡ true → KnownIn w
unfolding layout_sound
sound-known w h = go w.layout h
  where
    go : (l : ChannelLayout) → layout_sound_as l w.label_count w.labels ≡ true → Known l (labels_of w)
    go NoLayout h = tt
    go (Tagged t) h = h
    go Described h =
        let d = two (leb w.label_count label_places) (are_known (labels_of w)) h in
        let n = leb-true w.label_count label_places d.0 in
        (rw length-take (omega arith), d.1)

-- at every point of a session the record at the header call holds one
known-after : (s : Session) (call : Call) → KnownIn s.at_header → KnownIn (do_call s call).at_header
unfolding header_call
known-after s (set x) k = k
known-after s header k = go (is_accepted s header) refl
  where
    go : (b : Bool) → is_accepted s header ≡ b → KnownIn (cond b s.writer s.at_header)
    go true a =
        let w = s.writer in
        let o = stores 0 (header_bytes_of w) (with_header w (length (header_bytes_of w))) in
        let p = outcome-is s header (header_number w (length s.buffer)) o refl a in
        sound-known w (sound-alone w (length s.buffer) (header-allowed w (length s.buffer) p.0).is-sound).layout
    go false a = k
known-after s (bytes bs) k = k
known-after s (samples xs) k = k
known-after s finish k = k
known-after s (lend more) k = k

run-known : (s : Session) (calls : List Call) → KnownIn s.at_header → KnownIn (run s calls).at_header
unfolding run
run-known s [] k = k
run-known s (call ∷ calls) k = run-known (do_call s call) calls (known-after s call k)

-- and so does what sessions leave: the record at the header call is that of a call that is cut, or that of the session before
leaves-known : (otherwise : Remains) → KnownIn otherwise.at_header → (s : Session) → KnownIn s.at_header → (calls : List Call) (n : ℕ) → KnownIn (leaves otherwise s calls n).at_header
unfolding leaves
leaves-known otherwise l s k [] n = l
leaves-known otherwise l s k (call ∷ calls) n =
    leaves-known (cond (is_written s call) (stopped s call n) otherwise) (go (is_written s call)) (do_call s call) (known-after s call k) calls n
  where
    go : (b : Bool) → KnownIn (cond b (stopped s call n) otherwise).at_header
    go true = known-after s call k
    go false = l

more-known : (r : Remains) → KnownIn r.at_header → (later : List CutSession) → KnownIn (after_more r later).at_header
unfolding after_more
more-known r k [] = k
more-known r k (c ∷ cs) =
    let q = lent_again r c.lent in
    more-known (after_next r c) (leaves-known (resume_cut q c.stores) k (resumed_from q) k c.calls c.stores) cs

begun-known : (lent : List ℕ) (earlier : List CutSession) → KnownIn (begins lent earlier).at_header
begun-known lent [] = tt
begun-known lent (c ∷ cs) =
    more-known (after_the_first c) (leaves-known (resting (start c.lent)) tt (start c.lent) tt c.calls c.stores) cs

-- a layout in a file of ours
module _ (layout : ChannelLayout) (ls : List ℕ) where
  first-is : first_chan (layout_chunks layout ls) ≡ body_of layout ls
  first-is = go layout
    where
      go : (l : ChannelLayout) → first_chan (layout_chunks l ls) ≡ body_of l ls
      go NoLayout = refl
      go (Tagged t) = refl
      go Described = refl

  read_as : (channels room : ℕ) → Known layout ls → ReadAs layout ls channels room
  read_as channels room k = go layout k
    where
      go : (l : ChannelLayout) → Known l ls → ReadAs l ls channels room
      go NoLayout k = tt
      go (Tagged t) k = chan-read-back t [] channels room (tag_small t k) (omega arith) refl
      go Described k = chan-read-back tag.UseChannelDescriptions ls channels room (omega arith) (omega (arith, k.0)) k.1

  few : Known layout ls → layout ≡ Described → length ls ≤ label_places
  few k e = (subst (λ (l : ChannelLayout). Known l ls) e k).0

-- every file that is made, open or finished
module _ (hd : CAFWriter) (f : AudioFormat) (m : Makes hd f) (k : KnownIn hd) where
  made-says : (is_open : Bool) (audio : List ℕ) → edit_size + length audio < negative → SaysLayoutOf hd (bytes_of (made is_open f hd.layout (labels_of hd) audio))
  made-says is_open audio small =
      let layout = hd.layout in
      let ls = labels_of hd in
      let c = made is_open f layout ls audio in
      let ok = made-allowed is_open f layout ls audio m.typed m.rate (few layout ls k) small in
      let channels = channels_in hd.format in
      record {
        found = found-is-first c ok ∙ first-is layout ls;
        listed = λ blocks room e. sought-is-first c ok blocks e channels room ∙ ap (λ (o : Option (List ℕ)). says_of o channels room) (first-is layout ls);
        read = λ room. read_as layout ls channels room k;
      }

session-says : (s : Session) → Inv s → Formats s → KnownIn s.at_header → s.writer.has_header ≡ true → SaysLayoutOf s.at_header (file_of (resting s))
session-says s i forms k h =
    let w = s.writer in
    let hd = s.at_header in
    let b = begun-by s i h in
    let alone = sound-alone w (length s.buffer) i.is-sound in
    let small : edit_size + length s.arrived < negative = omega (arith, b.ends, alone.in-file, (headed-of w h alone.places).from) in
    subst (SaysLayoutOf hd) (sym b.file) (made-says hd b.f (fit-makes hd b.f b.format forms.at-header) k (not w.finished) s.arrived small)

pub layout-read-back : LayoutReadBack
layout-read-back lent earlier calls t u h =
    let s = begins lent earlier in
    session-says (run s calls) (runs s calls (begun-inv lent earlier t)) (run-formats s calls u (begun-formats lent earlier t)) (run-known s calls (begun-known lent earlier)) h

pub layout-recovered : LayoutRecovered
layout-recovered sessions t whole =
    let u = never-cut sessions t whole in
    let s = run (start u.buffer) u.calls in
    let h = finished-headed s (runs (start u.buffer) u.calls (begins-inv u.buffer)) u.finished in
    let says = layout-read-back u.buffer [] u.calls tt u.typed h in
    subst (SaysLayoutOf (remaining_after sessions).at_header) (sym u.same-file) (subst (λ (w : CAFWriter). SaysLayoutOf w (file_of (resting s))) u.same-header says)
