-- `uri_chunks::plain_host` meets its contract: the whole answer is what it is from here on.
-- Assumes nothing.
use Prim.Native.Nat.{◌+◌}
use mathlib.Core.Path.{◌≡◌}
use lib.ListN.{drop}
use Rattle.url_parser.specs.Uri.{first_of}
use Rattle.url_parser.specs.Step.{ends_plain_host}
use Rattle.uri_chunks.proofs.plain_host.Given as goal

abbrev pub invariant-loop-i : goal.invariant-loop-i
invariant-loop-i l = l.at + first_of ends_plain_host (drop l.at l.s) ≡ l.i + first_of ends_plain_host (drop l.i l.s)
