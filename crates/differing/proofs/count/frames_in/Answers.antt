use Rattle.std.proofs.Common.{◌≡◌, ℕ, ◌/◌, ◌<◌, Option, Some, None, SomeIff, arith, sym, ◌∙◌}
use Rattle.std.specs.Option.{unwrap_or}
use Rattle.std.proofs.Math.Nat.{div-zero, div-div-eq-div-mul}
use Rattle.pcm.specs.Packing.{sample_size}
use Rattle.differing.proofs.count.frames_in.Goals as goal

divided : (o : Option ℕ) (n d : ℕ) → SomeIff o (0 < d) (n / d) → unwrap_or o 0 ≡ n / d
divided None n d h = let z : d ≡ 0 = omega arith in rw z (sym (div-zero n))
divided (Some q) n d h = h.1

pub returns : goal.returns
returns c = c.unwrap_or.ensures ∙ divided _ _ c.args.channels c.checked_div.ensures ∙ div-div-eq-div-mul c.args.bytes sample_size c.args.channels
