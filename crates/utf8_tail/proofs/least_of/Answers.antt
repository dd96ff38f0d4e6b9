use Rattle.utf8_tail.specs.Tail.{least}
use Rattle.byte.proofs.Tests.{tests}
use Rattle.utf8_tail.proofs.least_of.Goals as goal

pub returns-then-a-eq224 : goal.returns-then-a-eq224
unfolding least
returns-then-a-eq224 c =
    search tests

pub returns-then-a-eq240 : goal.returns-then-a-eq240
unfolding least
returns-then-a-eq240 c =
    search tests

pub returns-else-a-eq240 : goal.returns-else-a-eq240
unfolding least
returns-else-a-eq240 c =
    search tests
