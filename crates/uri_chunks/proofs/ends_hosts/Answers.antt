-- `uri_chunks::ends_hosts` meets its contract: the tests of the code are the tests of the definition.
-- Assumes nothing.
use Rattle.byte.proofs.Tests.{tests}
use Rattle.url_parser.specs.Uri.{ends_hosts}
use Rattle.uri_chunks.proofs.ends_hosts.Goals as goal

pub returns-then-b-eq47 : goal.returns-then-b-eq47
unfolding ends_hosts
returns-then-b-eq47 c =
    search tests

pub returns : goal.returns
unfolding ends_hosts
returns c =
    search tests
