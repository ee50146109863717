use Rattle.std.proofs.Common.{rules, arith, ◌≡◌, ◌≤◌, ◌+◌, ◌∙◌, ℕ, List, ap, add-zero, length, slice_index_or, Fits, w8}
use Rattle.std.proofs.lemmas.Bool.Decides.{nat_tests}
use Rattle.byte_order.specs.Big.{big_at}
use Rattle.byte_order.proofs.Laws.{big-part}
use Rattle.reading.proofs.Four.{four-number}
use Rattle.reading.proofs.bytes.stands_at.Goals as goal
use Rattle.reading.proofs.bytes.stands_at.Goals.{then-s-ge-TYPE, else-s-ge-TYPE}

pub returns-then-p-s : goal.returns-then-p-s
returns-then-p-s c =
    let a = c.args in
    let s = a.s.now in
    let ends : a.p + 4 ≤ length s = elim c.if-s-ge-TYPE.branch [ then-s-ge-TYPE w ↦ grind (arith, nat_tests) | else-s-ge-TYPE w ↦ grind (arith, nat_tests) ] in
    let here : c.from_be_bytes.result ≡ big_at 4 c.bytes_at.result 0 = omega arith in
    let there : c.from_be_bytes-then-p-s.result ≡ big_at 4 a.four 0 = omega arith in
    let stands : c.from_be_bytes.result ≡ big_at 4 s a.p = here ∙ ap (λ (b : List ℕ). big_at 4 b 0) c.bytes_at.ensures ∙ big-part 4 s a.p 4 0 (omega arith) ∙ ap (big_at 4 s) (add-zero a.p) in
    rw (
      four-number s a.p a.four ends (search rules) (λ i. (c.type_inv.s i).fits) (λ i. let f : Fits w8 (slice_index_or a.four i 0) = search rules in f.fits),
      stands,
      there,
    )
