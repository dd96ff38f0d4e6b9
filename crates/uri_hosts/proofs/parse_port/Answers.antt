-- `uri_hosts::parse_port` meets its contract: nothing is left of the chunk, or its `:` and a text.
-- Assumes nothing.
use mathlib.Core.Path.{◌∙◌}
use Rattle.url_parser.proofs.Branches.{port-fixed, port-given}
use Rattle.uri_hosts.proofs.parse_port.Goals as goal

pub returns-then-end-at : goal.returns-then-end-at
returns-then-end-at c =
    let a = c.args in
    port-fixed a.at a.s.now _ c.chunk_end-end.ensures _ c.behind_chunk-next.ensures c.if-end-at.true

pub returns : goal.returns
returns c =
    let a = c.args in
    c.decode.ensures
    ∙ port-given a.at a.s.now _ c.chunk_end-end.ensures _ c.behind_chunk-next.ensures c.if-end-at.false _ c.part.ensures _ c.check-judged.ensures
