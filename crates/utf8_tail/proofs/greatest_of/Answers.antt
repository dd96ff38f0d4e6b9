use Rattle.utf8_tail.specs.Tail.{greatest}
use Rattle.byte.proofs.Tests.{tests}
use Rattle.utf8_tail.proofs.greatest_of.Goals as goal

pub returns-then-a-eq237 : goal.returns-then-a-eq237
unfolding greatest
returns-then-a-eq237 c =
    search tests

pub returns-then-a-eq244 : goal.returns-then-a-eq244
unfolding greatest
returns-then-a-eq244 c =
    search tests

pub returns-else-a-eq244 : goal.returns-else-a-eq244
unfolding greatest
returns-else-a-eq244 c =
    search tests
