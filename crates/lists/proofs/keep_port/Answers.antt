use Rattle.std.proofs.Common.{rules}
use Rattle.lists.specs.Lists.{port_kept}
use Rattle.lists.proofs.keep_port.Goals as goal

pub returns-in_err-keep : goal.returns-in_err-keep
unfolding port_kept
returns-in_err-keep c =
    search rules

pub returns : goal.returns
unfolding port_kept
returns c =
    search rules
