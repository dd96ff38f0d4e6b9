-- `check_until` meets its contract: a part that is plain is told by the laws of runs, and any other is read on from there. Assumes nothing.
use mathlib.Core.Path.{sym, ◌∙◌}
use Rattle.percent_check.proofs.Runs.{until-plain, until-more}
use Rattle.percent_check.proofs.check_until.Goals as goal

pub returns-then-stops_at : goal.returns-then-stops_at
returns-then-stops_at c =
    let a = c.args in until-plain a.stop a.at a.s.now _ c.plain_until-plain.ensures (sym c.stops_at.ensures ∙ c.if-stops_at.true)

pub returns : goal.returns
returns c =
    let a = c.args in until-more a.stop a.at a.s.now _ c.plain_until-plain.ensures _ c.find-end.ensures _ c.part.ensures _ c.check_from-judged.ensures
