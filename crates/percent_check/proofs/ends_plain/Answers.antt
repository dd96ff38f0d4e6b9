-- `ends_plain` meets its contract: the tests of the code are the tests of the definition. Assumes nothing.
use Rattle.byte.proofs.Tests.{tests}
use Rattle.percent_check.specs.Plain.{ends_plain}
use Rattle.percent_check.proofs.ends_plain.Goals as goal

pub returns-then-b-stop : goal.returns-then-b-stop
unfolding ends_plain
returns-then-b-stop c =
    search tests

pub returns-then-b-eq37 : goal.returns-then-b-eq37
unfolding ends_plain
returns-then-b-eq37 c =
    search tests

pub returns : goal.returns
unfolding ends_plain
returns c =
    search tests
