use Rattle.std.proofs.Common.{◌≡◌}
use Rattle.format.specs.Desc.{desc_body}
use Rattle.header_bytes.proofs.Parts.{description-put}
use Rattle.header_bytes.proofs.put.put_description.Goals as goal

pub returns : goal.returns
returns c =
    let made = rw c.requires.1 at c.desc_bytes.ensures in
    let body : c.unwrap-desc.result ≡ desc_body c.args.format = cc made in
    description-put c.args.out.now c.requires.0 c.args.format c.store.ensures.1 c.store-2.ensures.1 c.put_chunk_header.ensures body c.store-3.ensures.1
