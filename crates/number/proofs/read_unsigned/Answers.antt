use Rattle.byte.proofs.Tests.{tests}
use Rattle.number.specs.Number.{unsigned_of}
use Rattle.number.proofs.read_unsigned.Goals as goal

pub returns-then-at-eq43 : goal.returns-then-at-eq43
unfolding unsigned_of
returns-then-at-eq43 c =
    simp (tests, ← c.at.ensures, c.if-at-eq43.true, c.digits_from.ensures)

pub returns-else-at-eq43 : goal.returns-else-at-eq43
unfolding unsigned_of
returns-else-at-eq43 c =
    simp (tests, ← c.at.ensures, c.if-at-eq43.false, c.digits_from-else-at-eq43.ensures)
