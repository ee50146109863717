-- No refusal has the number of success.
use Rattle.std.proofs.Common.{◌≡◌, Option, Some, None, sym, ap, ◌∙◌}
use Rattle.answers.specs.Numbers.{done}
use Rattle.answers.specs.Refused.{refusal_number, refusal_for, number-tells}
use Rattle.answers.specs.declared.refusal.Refusal.{Refusal}

pub refused-some : (r : Refusal) → refusal_number r ≡ done → ⊥
refused-some r e =
    let n : ◌≡◌ {A = Option Refusal} None (Some r) = ap refusal_for (sym e) ∙ number-tells r in
    cc
