use mathlib.Core.Path.{sym, ap, ◌∙◌}
use lib.ListN.{length}
use Rattle.escape.proofs.Escape.{escape-plain, escape-long}
use Rattle.escape.proofs.escape_len.Goals as goal

pub returns-then-is_plain : goal.returns-then-is_plain
returns-then-is_plain c =
    sym (ap length (escape-plain _ (sym c.is_plain.ensures ∙ c.if-is_plain.true)))

pub returns-else-is_plain : goal.returns-else-is_plain
returns-else-is_plain c =
    sym (escape-long _ (sym c.is_plain.ensures ∙ c.if-is_plain.false))
