use mathlib.Core.Path.{sym, ◌∙◌}
use Rattle.escape.proofs.Plain.{mark-plain, mark-other}
use Rattle.escape.proofs.mark.Goals as goal

pub returns-then-is_plain : goal.returns-then-is_plain
returns-then-is_plain c =
    mark-plain _ (sym c.is_plain.ensures ∙ c.if-is_plain.true)

pub returns-else-is_plain : goal.returns-else-is_plain
returns-else-is_plain c =
    mark-other _ (sym c.is_plain.ensures ∙ c.if-is_plain.false)
