use Rattle.std.proofs.Common.{◌≡◌, ◌∙◌, ◌+◌, List, ℕ, ap}
use Rattle.byte_order.specs.Big.{big_bytes}
use Rattle.byte_order.specs.Splice.{store_first}
use Rattle.byte_order.proofs.Bytes.{be-bytes}
use Rattle.overview.proofs.Stored.{head-put}
use Rattle.overview.proofs.chunk.put_head.Goals as goal

pub returns : goal.returns
returns c =
    let a = c.args in
    let size : c.to_be_bytes.result ≡ big_bytes 8 a.size = c.to_be_bytes.ensures ∙ be-bytes 8 a.size in
    let edits : c.to_be_bytes-2.result ≡ big_bytes 4 a.edits = c.to_be_bytes-2.ensures ∙ be-bytes 4 a.edits in
    let group : c.to_be_bytes-3.result ≡ big_bytes 4 a.group = c.to_be_bytes-3.ensures ∙ be-bytes 4 a.group in
    head-put a.buf.now a.at a.size a.edits a.group c.requires c.put.ensures.1
    (c.put-2.ensures.1 ∙ ap (λ (bs : List ℕ). store_first 8 bs (a.at + 4) c.put.new.buf) size)
    (c.put-3.ensures.1 ∙ ap (λ (bs : List ℕ). store_first 4 bs (a.at + 12) c.put-2.new.buf) edits)
    (c.put-4.ensures.1 ∙ ap (λ (bs : List ℕ). store_first 4 bs (a.at + 16) c.put-3.new.buf) group)
