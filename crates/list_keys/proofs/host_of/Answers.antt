use Rattle.byte.proofs.Tests.{tests}
use Rattle.lists.specs.Lists.{host_of}
use Rattle.list_keys.proofs.host_of.Goals as goal

pub returns-then-first-eq47 : goal.returns-then-first-eq47
unfolding host_of
returns-then-first-eq47 c =
    search tests

pub returns-else-first-eq47 : goal.returns-else-first-eq47
unfolding host_of
returns-else-first-eq47 c =
    search tests
