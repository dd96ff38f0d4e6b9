use Rattle.std.proofs.Common.{rules}
use Rattle.apply.specs.Apply.{seconds_in}
use Rattle.field_keys.proofs.read_seconds.Goals as goal

pub returns-in_err-read_signed : goal.returns-in_err-read_signed
unfolding seconds_in
returns-in_err-read_signed c =
    search rules

pub returns : goal.returns
unfolding seconds_in
returns c =
    search rules
