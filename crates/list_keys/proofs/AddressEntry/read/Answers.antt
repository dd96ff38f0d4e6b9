use Rattle.std.proofs.Common.{rules}
use Rattle.lists.specs.Lists.{address_piece}
use Rattle.list_keys.proofs.AddressEntry.read.Goals as goal

pub returns : goal.returns
unfolding address_piece
returns c =
    search rules
