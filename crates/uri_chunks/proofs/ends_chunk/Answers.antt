-- `uri_chunks::ends_chunk` meets its contract: the tests of the code are the tests of the definition.
-- Assumes nothing.
use Rattle.byte.proofs.Tests.{tests}
use Rattle.url_parser.specs.Step.{ends_chunk}
use Rattle.uri_chunks.proofs.ends_chunk.Goals as goal

pub returns-then-b-eq44 : goal.returns-then-b-eq44
unfolding ends_chunk
returns-then-b-eq44 c =
    search tests

pub returns : goal.returns
unfolding ends_chunk
returns c =
    search tests
