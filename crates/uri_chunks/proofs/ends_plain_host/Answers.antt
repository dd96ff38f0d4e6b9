-- `uri_chunks::ends_plain_host` meets its contract: the tests of the code are the tests of the definition.
-- Assumes nothing.
use Rattle.byte.proofs.Tests.{tests}
use Rattle.url_parser.specs.Step.{ends_plain_host}
use Rattle.uri_chunks.proofs.ends_plain_host.Goals as goal

pub returns-then-b-gt63 : goal.returns-then-b-gt63
unfolding ends_plain_host
returns-then-b-gt63 c =
    search tests

pub returns-then-b-eq37 : goal.returns-then-b-eq37
unfolding ends_plain_host
returns-then-b-eq37 c =
    search tests

pub returns : goal.returns
unfolding ends_plain_host
returns c =
    search tests
