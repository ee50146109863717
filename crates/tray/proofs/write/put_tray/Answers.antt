use Rattle.std.proofs.Common.{List, ℕ, length, ap, ◌∙◌, arith}
use Rattle.byte_order.specs.Splice.{store_first}
use Rattle.byte_order.proofs.Bytes.{be-bytes}
use Rattle.tray.proofs.Writes.{allowed, tray-stored}
use Rattle.tray.proofs.write.put_tray.Goals as goal

pub row_place-first-requires : goal.row_place-first-requires
row_place-first-requires c =
    let ok = allowed c.args.bodies.now c.args.lengths.now (length c.args.out.now) c.requires in
    omega (arith, ok.few)

pub overflow_cast-n : goal.overflow_cast-n
overflow_cast-n c =
    let ok = allowed c.args.bodies.now c.args.lengths.now (length c.args.out.now) c.requires in
    omega (arith, ok.few)

pub put_rows-requires : goal.put_rows-requires
put_rows-requires c =
    let ok = allowed c.args.bodies.now c.args.lengths.now (length c.args.out.now) c.requires in
    let k = c.put.auto in
    let f = c.row_place-first.ensures in
    (omega (arith, ok.few), omega (arith, ok.place, k), omega (arith, ok.place, ok.summed, k, f))

pub returns : goal.returns
returns c =
    let a = c.args in
    let ok = allowed a.bodies.now a.lengths.now (length a.out.now) c.requires in
    tray-stored a.out.now a.bodies.now a.lengths.now c.row_place-first.ensures ok
    (c.put.ensures.1 ∙ ap (λ (bs : List ℕ). store_first 4 bs 0 a.out.now) (c.to_be_bytes.ensures ∙ be-bytes 4 (length a.lengths.now))) c.put_rows.ensures c.store.ensures.1
