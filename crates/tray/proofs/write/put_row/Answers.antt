use Rattle.std.proofs.Common.{◌+◌, List, ℕ, ap, ◌∙◌}
use Rattle.byte_order.specs.Splice.{store_first}
use Rattle.byte_order.proofs.Bytes.{be-bytes}
use Rattle.tray.proofs.Writes.{row-stored}
use Rattle.tray.proofs.write.put_row.Goals as goal

pub returns : goal.returns
returns c =
    let a = c.args in
    row-stored a.out.now a.place a.start a.size c.requires
    (c.put.ensures.1 ∙ ap (λ (bs : List ℕ). store_first 8 bs a.place a.out.now) (c.to_be_bytes.ensures ∙ be-bytes 8 a.start))
    (c.put-2.ensures.1 ∙ ap (λ (bs : List ℕ). store_first 8 bs (a.place + 8) c.put.new.buf) (c.to_be_bytes-2.ensures ∙ be-bytes 8 a.size))
