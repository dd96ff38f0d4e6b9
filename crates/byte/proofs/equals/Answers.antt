use mathlib.Core.Path.{◌∙◌}
use Rattle.byte.proofs.Same.{same-pointwise}
use Rattle.byte.proofs.equals.Goals as goal

pub returns : goal.returns
returns c = c.eq.ensures ∙ same-pointwise c.args.a.now c.args.b.now
