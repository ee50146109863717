use Rattle.std.proofs.Common.{arith, ◌∙◌, ◌+◌, ◌≤◌, ℕ, length, sym, ap}
use Rattle.byte_order.specs.Splice.{splice}
use Rattle.layout.specs.Setting.{label_places}
use Rattle.header_bytes.specs.Put.{open_head, longest_header}
use Rattle.header_bytes.proofs.Parts.{fits, header-in, end-small, end_is, header-put}
use Rattle.header_bytes.proofs.put.put_header.Goals as goal

pub put_data_head-requires : goal.put_data_head-requires
put_data_head-requires c =
    let a = c.args in
    omega (arith, c.put_layout-at.ensures.0, end-small a.format a.layout a.labels.now (omega arith))

pub returns : goal.returns
returns c =
    let a = c.args in
    let ls = a.labels.now in
    let room : longest_header ≤ length a.out.now = omega arith in
    let few : length ls ≤ label_places = omega arith in
    let e = c.put_layout-at.ensures in
    let is = header-in (length a.out.now) a.format a.layout ls (fits (length a.out.now) a.format ls room few (sym c.is_not_a_number.ensures ∙ c.if-is_not_a_number.false)) in (
      ap (λ (k : ℕ). k + length open_head) e.0 ∙ end_is a.format a.layout ls few ∙ sym (ap length is),
      header-put a.format a.layout ls few a.out.now room c.put_description.ensures e.0 e.1 c.put_data_head.ensures ∙ sym (ap (splice a.out.now 0) is),
    )
