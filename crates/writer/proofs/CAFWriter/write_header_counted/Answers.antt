use Rattle.std.proofs.Common.{◌≡◌, ◌≤◌, ℕ, List, Some, length, arith, rules, sym, ◌∙◌, ap}
use Rattle.std.proofs.Math.ListN.{length-take, replicate}
use Rattle.std.proofs.lemmas.Result.{err_from_is_err_and}
use Rattle.byte_order.specs.Splice.{store_count, store_first}
use Rattle.writer.specs.Record.{labels_of, with_header}
use Rattle.writer.specs.Outcome.{stores}
use Rattle.writer.specs.Header.{header_bytes_of, header_number, header_call}
use Rattle.writer.proofs.Tests.{refusal-not_done}
use Rattle.writer.proofs.Facts.{sound-alone}
use Rattle.writer.proofs.Allowed.{header-allowed}
use Rattle.writer.proofs.Counting.{counted-refused, counted-stored}
use Rattle.writer.proofs.Heads.{rate-number, header_of, filled}
use Rattle.writer.proofs.CAFWriter.write_header_counted.Goals as goal

pub returns-in_err-format : goal.returns-in_err-format
unfolding header_call
returns-in_err-format c =
    let a = c.args in
    let w = a.self in
    let p = err_from_is_err_and c.from_residual.result c.from_residual.ensures.1 in
    rw (p.1, p.2, ← c.in_err-format.ensures.number) (counted-refused a.n w a.buf.now _ (stores 0 (header_bytes_of w) (with_header w (length (header_bytes_of w)))) (refusal-not_done _))

pub returns : goal.returns
unfolding header_call
returns c =
    let a = c.args in
    let w = a.self in
    let room = length a.buf.now in
    let z : header_number w room ≡ 0 = sym c.in_ok-format.ensures.number in
    let h = header-allowed w room z in
    let k : length w.labels ≡ 64 = search (rules, c) in
    let few : length (labels_of w) ≤ 64 = rw length-take (omega arith) in
    let f = c.in_ok-format.format in
    let there : w.format ≡ Some f = c.in_ok-format.ensures.format in
    let rate = rate-number w f there (sound-alone w room h.is-sound).format in
    let g = filled f w.layout (labels_of w) (replicate 1372 0) c.put_header_of-len.new.out c.put_header_of-len.result (search rules) few rate c.put_header_of-len.ensures.0 c.put_header_of-len.ensures.1 in
    let e = g.is ∙ sym (header_of w f there) in
    let k₁ = c.store-stores.ensures.0 ∙ ap (λ (l : List ℕ). store_count a.n (length l) 0 room) e in
    let b = c.store-stores.ensures.1 ∙ ap (λ (l : List ℕ). store_first a.n l 0 a.buf.now) e in
    let d = counted-stored a.n w a.buf.now (header_number w room) 0 (header_bytes_of w) (with_header w (length (header_bytes_of w))) z (omega (arith, h.in-room)) c.store-stores.result _ k₁ b in
    (rw c.with_stores.ensures d.0, d.1)
