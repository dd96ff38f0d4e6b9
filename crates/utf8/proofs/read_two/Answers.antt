use Rattle.utf8.specs.Utf8.{two}
use Rattle.utf8.proofs.read_two.Goals as goal

pub returns-then-is_tail : goal.returns-then-is_tail
unfolding two
returns-then-is_tail c =
    simp (← c.is_tail.ensures, c.if-is_tail.true)

pub returns : goal.returns
unfolding two
returns c =
    simp (← c.is_tail.ensures, c.if-is_tail.false)
