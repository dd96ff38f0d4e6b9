-- `uri_chunks::ends_host` meets its contract: the tests of the code are the tests of the definition.
-- Assumes nothing.
use Rattle.byte.proofs.Tests.{tests}
use Rattle.url_parser.specs.Step.{ends_host}
use Rattle.uri_chunks.proofs.ends_host.Goals as goal

pub returns-then-b-eq58 : goal.returns-then-b-eq58
unfolding ends_host
returns-then-b-eq58 c =
    search tests

pub returns : goal.returns
unfolding ends_host
returns c =
    search tests
