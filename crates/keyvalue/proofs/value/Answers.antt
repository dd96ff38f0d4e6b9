-- `value` meets its contract: by what stands at the value's start. Assumes nothing.
use mathlib.Core.Path.{refl, sym, ◌∙◌}
use native.Mathlib.Omega.{arith}
use Prim.Native.Nat.{ℕ}
use lib.Dec.{eqb}
use borrow.Author.Tests.{eq-eqb}
use Rattle.byte.proofs.Laws.{past}
use Rattle.keyvalue.proofs.Steps.{open-quote, closed-quote, empty-value, simple-value}
use Rattle.keyvalue.proofs.value.Goals as goal

pub overflow_add-start : goal.overflow_add-start
overflow_add-start c =
    let a = c.args in
    omega (arith, past (λ (b : ℕ). eqb b 39) refl a.s.now a.at (eq-eqb _ _ (sym c.at.ensures ∙ c.if-at-eq39.true)))

pub returns-then-s-quote : goal.returns-then-s-quote
returns-then-s-quote c =
    let a = c.args in
    sym (open-quote a.s.now a.key a.at (sym c.at.ensures ∙ c.if-at-eq39.true) (rw c.quoted_value-value.ensures at c.if-s-quote.true))

pub returns-then-at-eq39 : goal.returns-then-at-eq39
returns-then-at-eq39 c =
    let a = c.args in
    rw c.quoted_value-value.ensures (sym (closed-quote a.s.now a.key a.at (sym c.at.ensures ∙ c.if-at-eq39.true) (rw c.quoted_value-value.ensures at c.if-s-quote.false)))

pub returns-then-value-eq0 : goal.returns-then-value-eq0
returns-then-value-eq0 c =
    let a = c.args in
    sym (empty-value a.s.now a.key a.at (λ e. c.if-at-eq39.false (c.at.ensures ∙ e)) (rw c.simple_value-value.ensures at c.if-value-eq0.true))

pub returns : goal.returns
returns c =
    let a = c.args in
    rw c.simple_value-value.ensures (sym (simple-value a.s.now a.key a.at (λ e. c.if-at-eq39.false (c.at.ensures ∙ e)) (rw c.simple_value-value.ensures at c.if-value-eq0.false)))
