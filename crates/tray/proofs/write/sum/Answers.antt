use Rattle.std.proofs.Common.{◌≡◌, ◌∙◌, rules}
use Rattle.std.specs.List as list
use Rattle.tray.proofs.Writes.{sum-is}
use Rattle.tray.proofs.write.sum.Goals as goal

pub returns : goal.returns
returns c =
    let e : c.sum.result ≡ list.sum c.args.lengths.now = search rules in
    e ∙ sum-is c.args.lengths.now
