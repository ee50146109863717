use Rattle.std.proofs.Common.{◌≡◌, ◌*◌, ◌∙◌, rules, arith, length, sym, ap, List, ℕ}
use lib.Seq.{take_all}
use Rattle.answers.specs.Numbers.{done}
use Rattle.byte_order.specs.Splice.{splice}
use Rattle.byte_order.proofs.Budget.{all_done}
use Rattle.pcm.specs.Packing.{sample_size, packed, pack_number}
use Rattle.pcm.proofs.Packed.{length-packed}
use Rattle.pcm.proofs.packing.pack.Goals as goal

pub returns-clause-stored : goal.returns-clause-stored
returns-clause-stored c =
    let a = c.args in
    let n = sample_size * length a.samples.now in
    let bs = packed a.endianness a.samples.now in
    let l = length-packed a.endianness a.samples.now in
    let accepted : pack_number a.samples.now (length a.out.now) ≡ done = search rules in
    rw accepted (c.pack_first.ensures.1 ∙ sym (all_done n 0 bs a.out.now (omega arith)).1 ∙ ap (λ (v : List ℕ). splice a.out.now 0 v) (take_all n bs (omega arith)))
