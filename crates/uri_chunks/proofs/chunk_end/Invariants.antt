-- `uri_chunks::chunk_end` meets its contract: the whole answer is what it is from here on.
-- Assumes nothing.
use Prim.Native.Nat.{◌+◌}
use mathlib.Core.Path.{◌≡◌}
use lib.ListN.{drop}
use Rattle.url_parser.specs.Uri.{first_of}
use Rattle.url_parser.specs.Step.{ends_chunk}
use Rattle.uri_chunks.proofs.chunk_end.Given as goal

abbrev pub invariant-loop-i : goal.invariant-loop-i
invariant-loop-i l = l.at + first_of ends_chunk (drop l.at l.s) ≡ l.i + first_of ends_chunk (drop l.i l.s)
