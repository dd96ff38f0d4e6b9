-- `uri_hosts::parse_chunk` meets its contract: a plain host by its laws, and any other by its place.
-- Assumes nothing.
use mathlib.Core.Path.{sym, ◌∙◌}
use native.Mathlib.Omega.{arith}
use Rattle.url_parser.proofs.PlainHost.{chunk-plain}
use Rattle.uri_hosts.proofs.parse_chunk.Goals as goal

pub returns-then-at-eq91 : goal.returns-then-at-eq91
returns-then-at-eq91 c =
    c.parse_placed.ensures

pub overflow_sub-len : goal.overflow_sub-len
overflow_sub-len c =
    omega (arith, c.plain_host-to.ensures)

pub returns-then-host_ends_at : goal.returns-then-host_ends_at
returns-then-host_ends_at c =
    let a = c.args in
    chunk-plain a.at a.s.now _ c.plain_host-to.ensures (λ z. c.if-at-eq91.false (c.at.ensures ∙ z)) (sym c.host_ends_at.ensures ∙ c.if-host_ends_at.true)

pub returns : goal.returns
returns c =
    c.parse_placed-2.ensures
