-- The rule of kept/specs/Settled in a session: every call keeps it.
use mathlib.Core.Path.{refl, ◌∙◌, ap}
use mathlib.Core.List.{List, [], ◌∷◌}
use Prim.Native.Nat.{◌≤◌}
use lib.ListN.{length}
use Rattle.reading.specs.Plain.{plain}
use Rattle.writer.specs.Record.{with_header}
use Rattle.writer.specs.Outcome.{stores}
use Rattle.writer.specs.Header.{header_bytes_of, header_number, header_call}
use Rattle.kept.specs.Settled.{Settled}
use Rattle.kept.proofs.SettledKept.{settled-kept}
use Rattle.recovery.specs.Calls.{format, tag, labels, configure, group, Call, set, header, bytes, samples, finish, lend}
use Rattle.recovery.specs.Session.{Session, do_call, run}
use Rattle.recovery.proofs.Doing.{by_call}
use Rattle.recovery.proofs.Lent.{grown-file}
use Rattle.recovery.proofs.Going.{Going, no-header, one_more}

abbrev pub Rule : Session → Type 0
Rule s = Settled s.writer s.buffer

-- where the file is in the buffer, and the header call keeps it too
pub rule-kept : (s : Session) → s.writer.file_len ≤ length s.buffer → (Rule s → Rule (do_call s header)) → (call : Call) → Rule s → Rule (do_call s call)
rule-kept s l h (set (format rate channels bits t e)) r = settled-kept.format s.writer s.buffer rate channels bits t e r
rule-kept s l h (set (tag t)) r = settled-kept.tag s.writer s.buffer t r
rule-kept s l h (set (labels ls channels)) r = settled-kept.labels s.writer s.buffer ls channels r
rule-kept s l h (set (configure rate channels bits ls)) r = settled-kept.configure s.writer s.buffer rate channels bits ls r
rule-kept s l h (set (group g)) r = settled-kept.group s.writer s.buffer g r
rule-kept s l h header r = h r
rule-kept s l h (bytes bs) r = settled-kept.bytes s.writer s.buffer bs r
rule-kept s l h (samples xs) r = settled-kept.samples s.writer s.buffer xs r
rule-kept s l h finish r = settled-kept.finish s.writer s.buffer r
rule-kept s l h (lend more) r =
    let e = grown-file s.writer.file_len s.buffer more l in
    λ stands. let f = r stands in (f.0, ap plain e ∙ f.1)

-- a header that stands refuses another
still-headed : (s : Session) → Going s → Rule s → Rule (do_call s header)
unfolding header_call
still-headed s g r =
    let w = s.writer in
    by_call s header Rule (header_number w (length s.buffer)) (stores 0 (header_bytes_of w) (with_header w (length (header_bytes_of w)))) refl refl r (λ n. absurd (no-header s g n))

pub rule-once-more : (s : Session) → Going s → (call : Call) → Rule s → Rule (do_call s call)
rule-once-more s g = rule-kept s g.in-room (still-headed s g)

pub rule-goes-on : (s : Session) → Going s → (calls : List Call) → Rule s → Rule (run s calls)
unfolding run
rule-goes-on s g [] r = r
rule-goes-on s g (call ∷ calls) r = rule-goes-on (do_call s call) (one_more s g call).goes calls (rule-once-more s g call r)
