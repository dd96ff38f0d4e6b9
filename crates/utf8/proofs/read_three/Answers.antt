use Rattle.utf8.specs.Utf8.{three}
use Rattle.utf8.proofs.read_three.Goals as goal

pub returns-then-is_tail : goal.returns-then-is_tail
unfolding three
returns-then-is_tail c =
    let f = c in
    simp (← f.is_second.ensures, f.if-is_second.true, ← c.is_tail.ensures, c.if-is_tail.true)

pub returns-else-is_tail : goal.returns-else-is_tail
unfolding three
returns-else-is_tail c =
    let f = c in
    simp (← f.is_second.ensures, f.if-is_second.true, ← c.is_tail.ensures, c.if-is_tail.false)

pub returns-else-is_second : goal.returns-else-is_second
unfolding three
returns-else-is_second c =
    simp (← c.is_second.ensures, c.if-is_second.false)
