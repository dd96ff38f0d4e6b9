use Rattle.std.proofs.Common.{rules}
use Rattle.lists.specs.Lists.{address_kept}
use Rattle.lists.proofs.keep_address.Goals as goal

pub returns-in_err-keep : goal.returns-in_err-keep
unfolding address_kept
returns-in_err-keep c =
    search rules

pub returns : goal.returns
unfolding address_kept
returns c =
    search rules
