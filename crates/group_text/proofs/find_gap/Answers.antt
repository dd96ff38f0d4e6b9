-- `group_text::find_gap`: the whole answer is what it is from here on.
-- Assumes nothing.
use mathlib.Core.Path.{sym, ◌∙◌}
use native.Mathlib.Omega.{arith}
use Rattle.group_text.proofs.Gap.{gap_here, gap-on, gap-end}
use Rattle.group_text.proofs.find_gap.Goals as goal

pub returns-then-stands_at : goal.returns-then-stands_at
returns-then-stands_at c =
    let l = c in
    omega (arith, l.loop-i.invariant, gap_here l.args.s.now l.loop-i.i (omega arith) (sym c.stands_at.ensures ∙ c.if-stands_at.true))

pub loop-i-preserved : goal.loop-i-preserved
loop-i-preserved c =
    let l = c in
    omega (arith, l.loop-i.invariant, gap-on l.args.s.now l.loop-i.i (omega arith) (sym c.stands_at.ensures ∙ c.if-stands_at.false))

pub returns : goal.returns
returns c =
    let l = c in
    omega (arith, l.loop-i.invariant, gap-end l.args.s.now l.loop-i.i (omega arith))
