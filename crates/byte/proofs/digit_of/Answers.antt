use mathlib.Core.Path.{sym, ◌∙◌}
use native.Mathlib.Omega.{arith}
use Rattle.byte.specs.Digit.{digit_of}
use Rattle.byte.proofs.Laws.{between_in}
use Rattle.byte.proofs.digit_of.Goals as goal

pub overflow_sub-result : goal.overflow_sub-result
overflow_sub-result c =
    omega (arith, between_in 48 57 _ (sym c.is_between.ensures ∙ c.if-is_between.true))

pub returns-then-is_between : goal.returns-then-is_between
unfolding digit_of
returns-then-is_between c =
    simp (← c.is_between.ensures, c.if-is_between.true)

pub overflow_sub-result-then-is_between-2 : goal.overflow_sub-result-then-is_between-2
overflow_sub-result-then-is_between-2 c =
    omega (arith, between_in 65 70 _ (sym c.is_between-2.ensures ∙ c.if-is_between-2.true))

pub returns-then-is_between-2 : goal.returns-then-is_between-2
unfolding digit_of
returns-then-is_between-2 c =
    simp (← c.is_between.ensures, c.if-is_between.false, ← c.is_between-2.ensures, c.if-is_between-2.true)

pub overflow_sub-result-then-is_between-3 : goal.overflow_sub-result-then-is_between-3
overflow_sub-result-then-is_between-3 c =
    omega (arith, between_in 97 102 _ (sym c.is_between-3.ensures ∙ c.if-is_between-3.true))

pub returns-then-is_between-3 : goal.returns-then-is_between-3
unfolding digit_of
returns-then-is_between-3 c =
    simp (← c.is_between.ensures, c.if-is_between.false, ← c.is_between-2.ensures, c.if-is_between-2.false, ← c.is_between-3.ensures, c.if-is_between-3.true)

pub returns : goal.returns
unfolding digit_of
returns c =
    simp (← c.is_between.ensures, c.if-is_between.false, ← c.is_between-2.ensures, c.if-is_between-2.false, ← c.is_between-3.ensures, c.if-is_between-3.false)
