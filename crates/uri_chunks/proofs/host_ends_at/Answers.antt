-- `uri_chunks::host_ends_at` meets its contract: nothing is left, or the byte there decides.
-- Assumes nothing.
use mathlib.Core.Path.{◌∙◌}
use native.Mathlib.Omega.{arith}
use Rattle.url_parser.proofs.PlainHost.{host-ends, host-byte}
use Rattle.uri_chunks.proofs.host_ends_at.Goals as goal

pub returns-then-s-at : goal.returns-then-s-at
returns-then-s-at c =
    let a = c.args in host-ends a.s.now a.at (omega arith)

pub returns : goal.returns
returns c =
    let a = c.args in c.ends_host.ensures ∙ host-byte a.s.now a.at (omega arith)
