use Rattle.std.proofs.Common.{ℕ, pos, sym, ap, ◌∙◌, arith}
use lib.Ieee.{Float, binary64, of_bits, of_int, eq}
use Rattle.wave.proofs.WholeRate.{within, may-cut, too-low, too-high, cut_fits, comes_back, comes-not}
use Rattle.wave_head.proofs.rate.whole_rate.Goals as goal
use Rattle.wave_head.proofs.rate.whole_rate.Goals.{else-rate-via-then-rate+else-rate-2, else-rate-via-else-rate}

-- the code has the two ends of the range by their bits
pub truncating_f64_to_u64-n-requires : goal.truncating_f64_to_u64-n-requires
unfolding of_bits
truncating_f64_to_u64-n-requires c =
    let x = c.args.rate in
    let m = may-cut x (within x c.if-rate.true c.if-rate-2.true) in
    record { lower_bound = m.0; upper_bound = m.1 }

pub overflow_cast-result : goal.overflow_cast-result
unfolding of_bits
overflow_cast-result c =
    let x = c.args.rate in
    omega (arith, c.truncating_f64_to_u64-n.ensures, cut_fits x (within x c.if-rate.true c.if-rate-2.true))

pub returns-then-nearest_u64_to_f64-rate : goal.returns-then-nearest_u64_to_f64-rate
unfolding of_bits
returns-then-nearest_u64_to_f64-rate c =
    let x = c.args.rate in
    let n = c.truncating_f64_to_u64-n.ensures in
    let back = c.nearest_u64_to_f64.ensures ∙ ap (λ (k : ℕ). of_int binary64 (pos k)) n in
    n ∙ comes_back x (within x c.if-rate.true c.if-rate-2.true) (ap (λ (y : Float). eq y x) (sym back) ∙ c.if-nearest_u64_to_f64-rate.true)

pub returns-else-nearest_u64_to_f64-rate : goal.returns-else-nearest_u64_to_f64-rate
unfolding of_bits
returns-else-nearest_u64_to_f64-rate c =
    let x = c.args.rate in
    let back = c.nearest_u64_to_f64.ensures ∙ ap (λ (k : ℕ). of_int binary64 (pos k)) c.truncating_f64_to_u64-n.ensures in
    comes-not x (within x c.if-rate.true c.if-rate-2.true) (ap (λ (y : Float). eq y x) (sym back) ∙ c.if-nearest_u64_to_f64-rate.false)

pub returns-else-rate : goal.returns-else-rate
unfolding of_bits
returns-else-rate c =
    elim c.else-rate.branch [
      | else-rate-via-then-rate+else-rate-2 w ↦ too-high c.args.rate w.if-rate-2.false
      | else-rate-via-else-rate w ↦ too-low c.args.rate w.if-rate.false
    ]
