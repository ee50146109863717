use Rattle.format.proofs.Padded.{padded-read}
use Rattle.format.specs.FormatAnswers.{desc_read}
use mathlib.Core.Path.{◌∙◌, ap}
use borrow.Author.Rules.{rules}
use Rattle.format.proofs.desc.read_desc.Goals as goal

pub returns : goal.returns
returns c = c.desc_of.ensures ∙ ap desc_read c.store.ensures.1 ∙ padded-read c.args.body.now
