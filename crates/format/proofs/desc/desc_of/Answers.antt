use mathlib.Core.Path.{◌≡◌, sym, ◌∙◌, ap}
use native.Mathlib.Omega.{arith}
use Rattle.byte_order.proofs.RateAnswers.{rate-given}
use Rattle.byte_order.specs.RateAnswers.{rate_from}
use Rattle.byte_order.specs.Big.{big_at}
use Rattle.format.specs.Desc.{format_at}
use Rattle.format.proofs.desc.desc_of.Goals as goal

pub returns : goal.returns
unfolding format_at
returns c =
    let e : c.from_be_bytes-bits.result ≡ big_at 8 c.args.b 0 = omega arith in
    let g = rate-given (big_at 8 c.args.b 0) c.in_ok-sample_rate.sample_rate (sym (c.rate_from_bits.ensures ∙ ap rate_from e) ∙ c.in_ok-sample_rate.was) in
    rw g.0 (cc g.1)
