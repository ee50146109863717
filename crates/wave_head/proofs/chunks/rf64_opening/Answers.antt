use Rattle.std.proofs.Common.{◌≡◌, ◌+◌, ◌*◌, ◌/◌, ◌%◌, ◌∙◌}
use Rattle.wave.specs.Head.{opening_as}
use Rattle.wave.specs.Little.{little_bytes}
use Rattle.wave_head.proofs.Low.{le-bytes}
use Rattle.wave_head.proofs.chunks.rf64_opening.Goals as goal

pub returns : goal.returns
unfolding opening_as
returns c =
    let w = c.args.fitting.wave in
    let size : c.to_le_bytes-size.result ≡ little_bytes 8 (96 + w.payload + w.payload % 2) = c.to_le_bytes-size.ensures ∙ le-bytes 8 _ in
    let payload : c.to_le_bytes-payload.result ≡ little_bytes 8 w.payload = c.to_le_bytes-payload.ensures ∙ le-bytes 8 _ in
    let frames : c.to_le_bytes-frames.result ≡ little_bytes 8 (w.payload / (3 * w.channels)) = c.to_le_bytes-frames.ensures ∙ le-bytes 8 _ in
    rw (size, payload, frames)
