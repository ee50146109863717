use Rattle.std.proofs.Common.{arith}
use Rattle.layout.proofs.Descriptions.{chan-length}
use Rattle.header_bytes.proofs.Parts.{chan-put}
use Rattle.header_bytes.proofs.put.put_chan_chunk.Goals as goal

pub returns : goal.returns
returns c =
    let a = c.args in
    (omega (arith, chan-length a.tag a.labels.now), chan-put a.out.now c.requires.0 a.tag a.labels.now c.requires.1 c.put_chunk_header.ensures c.put_chan.ensures.1)
