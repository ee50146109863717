use mathlib.Core.Path.{sym}
use Rattle.layout.specs.Tags.{tags}
use Rattle.layout.specs.Known.{known_tag}
use Rattle.layout.proofs.Listed.{one_of, none_of}
use Rattle.layout.proofs.known.known_tag.Goals as goal

pub returns-in-0 : goal.returns-in-0
unfolding known_tag
returns-in-0 c = sym (one_of c.args.n tags c.in-0.is)

pub returns-in_default : goal.returns-in_default
unfolding known_tag
returns-in_default c = sym (none_of c.args.n tags c.in_default.in_default-own.rest.1)
