-- `is_solid` meets its contract: the three ranges in turn. Assumes nothing.
use Rattle.scan.specs.Scan.{solid}
use Rattle.scan.proofs.is_solid.Goals as goal

pub returns-then-is_between : goal.returns-then-is_between
unfolding solid
returns-then-is_between c =
    simp (← c.is_between.ensures, c.if-is_between.true)

pub returns-then-is_between-2 : goal.returns-then-is_between-2
unfolding solid
returns-then-is_between-2 c =
    let f = c in
    simp (← f.is_between.ensures, f.if-is_between.false, ← c.is_between-2.ensures, c.if-is_between-2.true)

pub returns : goal.returns
unfolding solid
returns c =
    let f = c in
    simp (← f.is_between.ensures, f.if-is_between.false, ← c.is_between-2.ensures, c.if-is_between-2.false)
