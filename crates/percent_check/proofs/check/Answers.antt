-- `check` meets its contract: the plain bytes are told by their laws. Assumes nothing.
use mathlib.Core.Path.{◌∙◌}
use Rattle.percent_check.proofs.Runs.{whole_plain, whole-more}
use Rattle.percent_check.proofs.check.Goals as goal

pub returns-then-s-plain : goal.returns-then-s-plain
returns-then-s-plain c =
    whole_plain c.args.s.now _ c.plain_until-plain.ensures c.if-s-plain.true

pub returns : goal.returns
returns c =
    c.check_from.ensures ∙ whole-more c.args.s.now _ c.plain_until-plain.ensures
