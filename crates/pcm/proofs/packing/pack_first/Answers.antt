use mathlib.Core.Path.{◌≡◌, ap, ◌∙◌}
use mathlib.Core.List.{List}
use Prim.Native.Nat.{ℕ, min}
use native.Mathlib.Omega.{arith}
use lib.ListN.{length, take}
use Rattle.byte_order.specs.Splice.{splice}
use Rattle.byte_order.proofs.Budget.{none_done, all_done, take_min}
use Rattle.pcm.specs.Packing.{packed}
use Rattle.pcm.proofs.Packed.{length-packed}
use Rattle.pcm.proofs.packing.pack_first.Goals as goal

pub returns-then-buf-count : goal.returns-then-buf-count
returns-then-buf-count c =
    let a = c.args in
    let bs = packed a.endianness a.samples.now in
    let l = length-packed a.endianness a.samples.now in
    rw (← l) (none_done a.n a.at bs a.buf.now (omega arith))

pub returns : goal.returns
returns c =
    let a = c.args in
    let bs = packed a.endianness a.samples.now in
    let l = length-packed a.endianness a.samples.now in
    let is : c.bytes_wanted-count.result ≡ min a.n (length bs) = rw l c.bytes_wanted-count.ensures in
    let all = all_done a.n a.at bs a.buf.now (omega arith) in
    let t : c.put_first.new.buf ≡ splice a.buf.now a.at (take a.n bs) = c.put_first.ensures ∙ ap (λ (v : List ℕ). splice a.buf.now a.at v) (rw is (take_min a.n bs)) in
    (rw (← l) (is ∙ all.0), t ∙ all.1)
