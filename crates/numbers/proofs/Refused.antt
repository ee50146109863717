-- No refusal has the number of a call that is not refused.
use Rattle.std.proofs.Common.{◌≡◌, Some, sym, ◌∙◌, ap}
use Rattle.answers.specs.Numbers.{done}
use Rattle.answers.specs.Refused.{refusal_number, refusal_for, number-tells}
use Rattle.answers.specs.declared.refusal.Refusal.{Refusal}

pub refused-some : (r : Refusal) → refusal_number r ≡ done → ⊥
refused-some r e = let t : refusal_for done ≡ Some r = ap refusal_for (sym e) ∙ number-tells r in cc
