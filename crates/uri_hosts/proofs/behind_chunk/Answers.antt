-- `uri_hosts::behind_chunk` meets its contract: a comma leads to the next chunk, anything else to the path.
-- Assumes nothing.
use mathlib.Core.Path.{refl, sym, ◌∙◌}
use Prim.Native.Nat.{ℕ, ◌<◌}
use native.Mathlib.Omega.{arith}
use lib.Dec.{eqb}
use lib.ListN.{length}
use borrow.Author.Tests.{eq-eqb}
use Rattle.byte.proofs.Laws.{past}
use Rattle.url_parser.proofs.Branches.{chunk_next, chunk-last}
use Rattle.uri_hosts.proofs.behind_chunk.Goals as goal

pub overflow_add-next : goal.overflow_add-next
overflow_add-next c =
    let a = c.args in
    let h : a.at < length a.s.now = past (λ (b : ℕ). eqb b 44) refl a.s.now a.at (eq-eqb _ _ (sym c.at.ensures ∙ c.if-at-eq44.true)) in
    omega arith

pub returns-then-at-eq44 : goal.returns-then-at-eq44
returns-then-at-eq44 c =
    let a = c.args in sym (chunk_next a.at a.s.now (sym c.at.ensures ∙ c.if-at-eq44.true))

pub returns : goal.returns
returns c =
    let a = c.args in sym (chunk-last a.at a.s.now (λ e. c.if-at-eq44.false (c.at.ensures ∙ e)))
