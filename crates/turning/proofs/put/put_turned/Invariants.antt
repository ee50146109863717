use Rattle.std.proofs.Common.{◌≡◌, ◌-◌, ◌%◌, ◌≤◌, length, take, drop}
use Rattle.std.specs.Slice.Iter.{chunks_rest, chunks_size}
use Rattle.byte_order.specs.Splice.{splice}
use Rattle.turning.specs.Turned.{turned}
use Rattle.turning.proofs.put.put_turned.Given as goal

abbrev pub invariant-loop-block : goal.invariant-loop-block
invariant-loop-block l =
    (goal.iterator-loop-block).can_next l.block-iterator
    × (goal.iterator-loop-block).is_finite l.block-iterator
    × (chunks_size l.block-iterator ≡ 768)
    × (length l.numbers ≡ 256)
    × (l.at ≤ l.place)
    × (l.place - l.at ≤ length l.samples)
    × ((l.place - l.at) % 3 ≡ 0)
    × (chunks_rest l.block-iterator ≡ drop (l.place - l.at) l.samples)
    × (l.out ≡ splice l.initial.out l.at (turned (take (l.place - l.at) l.samples)))
