-- `gained_at` meets its contract: a backslash stands within the text, so that a place stands behind it. Assumes nothing.
use mathlib.Core.Path.{refl}
use lib.Dec.{eqb}
use native.Mathlib.Omega.{arith}
use Prim.Native.Nat.{ℕ}
use Rattle.byte.proofs.Laws.{past}
use mathlib.Core.Path.{sym, ◌∙◌}
use borrow.Author.Tests.{eq-eqb, ne_eqb}
use Rattle.backslash.specs.Backslash.{gained_at}
use Rattle.backslash.proofs.gained_at.Goals as goal

pub overflow_add-result : goal.overflow_add-result
overflow_add-result c =
    let a = c.args in
    omega (arith, past (λ (b : ℕ). eqb b 92) refl a.s.now a.at (eq-eqb _ _ (sym c.at.ensures ∙ c.if-at-eq92.true)))

pub returns-then-at-eq92 : goal.returns-then-at-eq92
unfolding gained_at
returns-then-at-eq92 c =
    simp (← c.at.ensures, eq-eqb _ _ c.if-at-eq92.true)

pub returns-else-at-eq92 : goal.returns-else-at-eq92
unfolding gained_at
returns-else-at-eq92 c =
    simp (← c.at.ensures, ne_eqb _ _ c.if-at-eq92.false)
