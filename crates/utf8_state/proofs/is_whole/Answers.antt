use Rattle.utf8_state.specs.Bytewise.{whole_state}
use Rattle.byte.proofs.Tests.{tests}
use Rattle.utf8_state.proofs.is_whole.Goals as goal

pub returns : goal.returns
unfolding whole_state
returns c =
    search tests
