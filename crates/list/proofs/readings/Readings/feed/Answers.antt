use Rattle.std.proofs.Common.{◌≡◌, refl, sym, ◌∙◌, ap, true, Result, Ok, Err}
use Rattle.std.specs.Result.{is_ok}
use Rattle.answers.specs.Numbers.{done}
use Rattle.answers.specs.Refused.{outcome_number}
use Rattle.answers.specs.declared.refusal.Refusal.{Refusal}
use Rattle.feeding.specs.Feed.{Fed}
use Rattle.feeding.proofs.Call.{feed-is, still-sound}
use Rattle.feeding.proofs.Forward.{fed-forward}
use Rattle.list.proofs.readings.Readings.feed.Goals as goal

done_number : {A : Type 0} (o : Result A Refusal) → is_ok o ≡ true → outcome_number o ≡ done
done_number (Ok x) e = refl
done_number (Err r) e = cc

pub invariant_of-self : goal.invariant_of-self
invariant_of-self c =
    let r = c.args.self.now in
    record { made_by_calls = rw (c.feed-fed.ensures.feeder ∙ ap (λ (x : Fed). x.feeder) (feed-is r.feeder c.args.block.now r.made_by_calls)) (still-sound r.feeder c.args.block.now r.made_by_calls) }

pub returns-clause-counted : goal.returns-clause-counted
returns-clause-counted c e =
    let r = c.args.self.now in
    (fed-forward r.feeder c.args.block.now _ _ r.made_by_calls c.feed-fed.ensures.number c.feed-fed.ensures.feeder (done_number _ (sym c.is_ok.ensures.value ∙ e))).total

pub returns-clause-within : goal.returns-clause-within
returns-clause-within c e =
    let r = c.args.self.now in
    (fed-forward r.feeder c.args.block.now _ _ r.made_by_calls c.feed-fed.ensures.number c.feed-fed.ensures.feeder (done_number _ (sym c.is_ok.ensures.value ∙ e))).limit
