-- `uri_step::parse_path` meets its contract: the byte at the place decides.
-- Assumes nothing.
use mathlib.Core.Path.{refl, sym, ◌∙◌}
use Prim.Native.Nat.{ℕ, ◌<◌}
use native.Mathlib.Omega.{arith}
use lib.Dec.{eqb}
use lib.ListN.{length}
use borrow.Author.Tests.{eq-eqb}
use Rattle.byte.proofs.Laws.{past}
use Rattle.url_parser.proofs.Branches.{path-slash, path-none}
use Rattle.uri_step.proofs.parse_path.Goals as goal

pub returns-then-at-ne47 : goal.returns-then-at-ne47
returns-then-at-ne47 c =
    let a = c.args in
    c.parse_params.ensures ∙ sym (path-none a.at a.s.now (λ e. c.if-at-ne47.true (c.at.ensures ∙ e)))

pub overflow_add-at : goal.overflow_add-at
overflow_add-at c =
    let a = c.args in
    let h : a.at < length a.s.now = past (λ (b : ℕ). eqb b 47) refl a.s.now a.at (eq-eqb _ _ (sym c.at.ensures ∙ c.if-at-ne47.false)) in
    omega arith

pub returns : goal.returns
returns c =
    let a = c.args in
    c.parse_database.ensures ∙ sym (path-slash a.at a.s.now (sym c.at.ensures ∙ c.if-at-ne47.false))
