-- `uri_chunks::closes_at` meets its contract: the chunk ends at the place, or the byte there decides.
-- Assumes nothing.
use lib.ListN.{drop_of_length-le}
use lib.Seq.{drop-cons}
use Rattle.url_parser.specs.Uri.{closes}
use Rattle.uri_chunks.proofs.closes_at.Goals as goal

pub returns-then-c-at : goal.returns-then-c-at
unfolding closes
returns-then-c-at c =
    rw (drop_of_length-le c.args.c.now c.if-c-at.true)

pub returns : goal.returns
unfolding closes
returns c =
    rw (drop-cons c.args.c.now c.args.at 0 c.if-c-at.false)
