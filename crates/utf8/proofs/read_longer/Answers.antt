use Rattle.utf8.specs.Utf8.{longer}
use Rattle.utf8.proofs.read_longer.Goals as goal

pub returns-then-is_between : goal.returns-then-is_between
unfolding longer
returns-then-is_between c =
    simp (← c.is_between.ensures, c.if-is_between.true) c.read_two.ensures

pub returns-then-is_between-2 : goal.returns-then-is_between-2
unfolding longer
returns-then-is_between-2 c =
    let g = c in
    let f = g in
    simp (← f.is_between.ensures, f.if-is_between.false, ← g.is_between-2.ensures, g.if-is_between-2.true) c.read_three.ensures

pub returns-then-is_between-3 : goal.returns-then-is_between-3
unfolding longer
returns-then-is_between-3 c =
    let h = c in
    let g = h in
    let f = g in
    simp (← f.is_between.ensures, f.if-is_between.false, ← g.is_between-2.ensures, g.if-is_between-2.false, ← h.is_between-3.ensures, h.if-is_between-3.true) c.read_four.ensures

pub returns : goal.returns
unfolding longer
returns c =
    let g = c in
    let f = g in
    simp (← f.is_between.ensures, f.if-is_between.false, ← g.is_between-2.ensures, g.if-is_between-2.false, ← c.is_between-3.ensures, c.if-is_between-3.false)
