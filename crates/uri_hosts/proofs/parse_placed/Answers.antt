-- `uri_hosts::parse_placed` meets its contract: a fault, or the host at its place; the places fit where the text's do.
-- Assumes nothing.
use mathlib.Core.Path.{◌∙◌}
use native.Mathlib.Omega.{arith}
use Rattle.url_parser.proofs.Branches.{chunk-fault, chunk-host, chunk-tail, chunk-to, chunk-from}
use Rattle.uri_hosts.proofs.parse_placed.Goals as goal

pub returns-in-None : goal.returns-in-None
returns-in-None c =
    let a = c.args in
    chunk-fault a.at a.s.now _ c.chunk_end-end.ensures _ c.part-c.ensures _ c.host_place.ensures c.in-None.is

pub overflow_add-next : goal.overflow_add-next
overflow_add-next c =
    let a = c.args in
    omega (arith, chunk-tail a.at a.s.now _ c.chunk_end-end.ensures _ c.part-c.ensures _ c.host_place.ensures _ c.in-Some.is)

pub overflow_add-at : goal.overflow_add-at
overflow_add-at c =
    let a = c.args in
    omega (arith, chunk-tail a.at a.s.now _ c.chunk_end-end.ensures _ c.part-c.ensures _ c.host_place.ensures _ c.in-Some.is, chunk-to a.at a.s.now _ c.chunk_end-end.ensures _ c.part-c.ensures _ c.host_place.ensures _ c.in-Some.is, chunk-from a.at a.s.now _ c.chunk_end-end.ensures _ c.part-c.ensures _ c.host_place.ensures _ c.in-Some.is)

pub overflow_add-at-in-Some : goal.overflow_add-at-in-Some
overflow_add-at-in-Some c =
    let a = c.args in
    omega (arith, chunk-tail a.at a.s.now _ c.chunk_end-end.ensures _ c.part-c.ensures _ c.host_place.ensures _ c.in-Some.is, chunk-to a.at a.s.now _ c.chunk_end-end.ensures _ c.part-c.ensures _ c.host_place.ensures _ c.in-Some.is)

pub returns-in-Some : goal.returns-in-Some
returns-in-Some c =
    let a = c.args in
    c.decode.ensures
    ∙ chunk-host a.at a.s.now _ c.chunk_end-end.ensures _ c.part-c.ensures _ c.host_place.ensures _ c.in-Some.is _ c.part.ensures _ c.host_param-judged.ensures
