use Rattle.comparing.proofs.AnswerLaws.{difference-is}
use Rattle.difference.specs.Compared.{side_of}
use Rattle.comparing.proofs.compare.differ.Goals as goal

pub returns : goal.returns
returns c =
    let a = c.args in
    let d = side_of a.one.now a.v in
    let e = side_of a.two.now a.w in
    let w = rw (c.order_of.ensures, c.audio_of.ensures, c.order_of-2.ensures, c.audio_of-2.ensures) at c.payloads-found.ensures in
    (difference-is d e c.payloads-found.result _ c.fields_of.result c.same_layout.result w c.fields_of.ensures c.same_layout.ensures, w.counted)
