use Rattle.lists.specs.Lists.{host_piece}
use Rattle.list_keys.proofs.HostEntry.read.Goals as goal

pub returns : goal.returns
unfolding host_piece
returns c =
    cc
