-- Blocks: how a file is cut makes no difference.
use mathlib.Core.Path.{◌≡◌, refl, sym, ◌∙◌, ap}
use mathlib.Core.Bool.{Bool, true, false}
use mathlib.Core.List.{List, [], ◌∷◌, ◌++◌, foldl-append, flatten}
use Prim.Native.Nat.{ℕ}
use Rattle.answers.specs.Numbers.{bad_writer}
use Rattle.feeder.specs.Record.{fresh, sound}
use Rattle.feeder.specs.End.{end_of, end}
use Rattle.feeder.specs.declared.Feeder.{Feeder}
use Rattle.feeder.proofs.Facts.{sound-tests, fresh-sound}
use Rattle.feeding.specs.Feed.{is_refused, number_at, step1, feed_bytes, feed, feed_all}
use Rattle.feeding.specs.Feed.{Fed}
use Rattle.feeding.proofs.Call.{feed-is, feed-not, still-sound}
use Rattle.feeding.proofs.Step.{refused-bytes}
use Rattle.fed.specs.Claims.{Feeds}

-- by whether a record is sound
pub by-sound : (P : Type 0) (b : Bool) → (b ≡ true → P) → (b ≡ false → P) → P
by-sound P true f g = f refl
by-sound P false f g = g refl

joined : (r : Feeder) (a b : List ℕ) → feed (feed r a).feeder b ≡ feed r (a ++ b)
joined r a b =
    by-sound (feed (feed r a).feeder b ≡ feed r (a ++ b)) (sound r)
    (λ e. ap (λ (x : Fed). feed x.feeder b) (feed-is r a e)
    ∙ feed-is (feed_bytes r a) b (still-sound r a e)
    ∙ ap (λ (x : Feeder). record { number = number_at x.phase; feeder = x }) (sym (foldl-append step1 r a b))
    ∙ sym (feed-is r (a ++ b) e))
    (λ e. ap (λ (x : Fed). feed x.feeder b) (feed-not r a e) ∙ feed-not r b e ∙ sym (feed-not r (a ++ b) e))

nothing : (r : Feeder) → (feed r []).feeder ≡ r
nothing r =
    by-sound ((feed r []).feeder ≡ r) (sound r)
    (λ e. ap (λ (x : Fed). x.feeder) (feed-is r [] e))
    (λ e. ap (λ (x : Fed). x.feeder) (feed-not r [] e))

refused : (r : Feeder) (block : List ℕ) → is_refused r.phase ≡ true → (feed r block).feeder ≡ r
refused r bs x =
    by-sound ((feed r bs).feeder ≡ r) (sound r)
    (λ e. ap (λ (x : Fed). x.feeder) (feed-is r bs e) ∙ refused-bytes bs r x)
    (λ e. ap (λ (x : Fed). x.feeder) (feed-not r bs e))

kept : (r : Feeder) (block : List ℕ) → sound (feed r block).feeder ≡ sound r
kept r bs =
    by-sound (sound (feed r bs).feeder ≡ sound r) (sound r)
    (λ e. ap (λ (x : Fed). sound x.feeder) (feed-is r bs e) ∙ still-sound r bs e ∙ sym e)
    (λ e. ap (λ (x : Fed). sound x.feeder) (feed-not r bs e))

end-not : (r : Feeder) → sound r ≡ false → end r ≡ Rattle.reading.specs.Shapes.Rejected bad_writer 0
unfolding end
end-not r e = rw e

pub feeds : Feeds
feeds = record { joined = joined; nothing = nothing; refused = refused; kept = kept; unsound = feed-not; unsound-end = end-not }

-- all blocks are one
pub all-joined : (blocks : List (List ℕ)) (r : Feeder) → feed_all r blocks ≡ (feed r (flatten blocks)).feeder
unfolding feed_all flatten
all-joined [] r = sym (nothing r)
all-joined (b ∷ bs) r = all-joined bs (feed r b).feeder ∙ ap (λ (x : Fed). x.feeder) (joined r b (flatten bs))

-- from a fresh record, at the end
pub end-joined : (blocks : List (List ℕ)) → end (feed_all fresh blocks) ≡ end_of (feed_bytes fresh (flatten blocks))
unfolding end
end-joined blocks =
    let e : sound fresh ≡ true = sound-tests fresh fresh-sound in
    let l : feed_all fresh blocks ≡ feed_bytes fresh (flatten blocks) = all-joined blocks fresh ∙ ap (λ (x : Fed). x.feeder) (feed-is fresh (flatten blocks) e) in
    rw (l, still-sound fresh (flatten blocks) e)
