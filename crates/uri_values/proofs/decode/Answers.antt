-- `uri_values::decode` meets its contract: the test of the code is the test of the definition.
-- Assumes nothing.
use Rattle.url_parser.specs.Step.{give}
use Rattle.uri_values.proofs.decode.Goals as goal

pub returns-then-c : goal.returns-then-c
unfolding give
returns-then-c c =
    rw c.if-c.true

pub returns : goal.returns
unfolding give
returns c =
    rw c.if-c.false
