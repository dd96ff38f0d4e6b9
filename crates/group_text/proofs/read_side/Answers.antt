-- `group_text::read_side`: nothing, or groups.
-- Assumes nothing.
use mathlib.Core.Path.{sym, ap, ◌∙◌}
use Rattle.std.specs.Prelude.{Some}
use Rattle.groups.specs.Eight.{packed}
use Rattle.group_text.proofs.Gap.{side-empty, side-some}
use Rattle.group_text.proofs.read_side.Goals as goal

pub returns-then-s-eq0 : goal.returns-then-s-eq0
unfolding packed
returns-then-s-eq0 c =
    let t = c in ap Some c.no_groups.ensures ∙ ap packed (sym (side-empty _ _ t.if-s-eq0.true))

pub returns : goal.returns
returns c =
    let e = c in c.read_groups.ensures ∙ ap packed (sym (side-some _ _ e.if-s-eq0.false))
