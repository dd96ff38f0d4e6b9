use Rattle.utf8.specs.Utf8.{four}
use Rattle.utf8.proofs.read_four.Goals as goal

pub returns-then-is_tail-2 : goal.returns-then-is_tail-2
unfolding four
returns-then-is_tail-2 c =
    let g = c in
    let f = g in
    simp (← f.is_second.ensures, f.if-is_second.true, ← g.is_tail.ensures, g.if-is_tail.true, ← c.is_tail-then-is_tail.ensures, c.if-is_tail-2.true)

pub returns-else-is_tail-2 : goal.returns-else-is_tail-2
unfolding four
returns-else-is_tail-2 c =
    let g = c in
    let f = g in
    simp (← f.is_second.ensures, f.if-is_second.true, ← g.is_tail.ensures, g.if-is_tail.true, ← c.is_tail-then-is_tail.ensures, c.if-is_tail-2.false)

pub returns-else-is_tail : goal.returns-else-is_tail
unfolding four
returns-else-is_tail c =
    let f = c in
    simp (← f.is_second.ensures, f.if-is_second.true, ← c.is_tail.ensures, c.if-is_tail.false)

pub returns-else-is_second : goal.returns-else-is_second
unfolding four
returns-else-is_second c =
    simp (← c.is_second.ensures, c.if-is_second.false)
