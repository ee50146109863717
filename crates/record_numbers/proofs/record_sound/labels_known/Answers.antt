use Rattle.std.proofs.Common.{rules, ◌+◌, ◌-◌, ◌%◌, ◌^◌, ◌∙◌, take, drop, tests}
use Rattle.std.proofs.lemmas.Iterator.{YieldsList-from_slice}
use Rattle.std.proofs.lemmas.Iterator.Search.{all_from_yields_List}
use Rattle.layout.specs.Known.{known_label}
use Rattle.record_numbers.proofs.Labels.{labels-known}
use Rattle.record_numbers.proofs.Records.{is-record}
use Rattle.record_numbers.proofs.record_sound.labels_known.Goals as goal

pub returns : goal.returns
returns c =
    let a = c.args in
    let ns = a.numbers.now in
    all_from_yields_List (λ n. known_label (n % 2 ^ 32)) _ _ _ c.all.ensures.ran (YieldsList-from_slice (take (12 + a.count - 12) (drop 12 ns)) cc) (λ x b q k. search (rules, tests))
    ∙ labels-known ns a.count c.requires.1 (is-record ns c.requires.0).labels
