use borrow.Author.Tests.{eq-eqb, ne_eqb}
use Rattle.utf8_state.specs.Bytewise.{next_state}
use Rattle.utf8_state.proofs.next.Goals as goal

pub returns-then-state-eq0 : goal.returns-then-state-eq0
unfolding next_state
returns-then-state-eq0 c =
    simp (eq-eqb _ _ c.if-state-eq0.true) c.begin.ensures

pub returns-then-is_between : goal.returns-then-is_between
unfolding next_state
returns-then-is_between c =
    let b = c in
    simp (ne_eqb _ _ b.if-state-eq0.false, ← b.is_between.ensures, b.if-is_between.true)

pub returns : goal.returns
unfolding next_state
returns c =
    simp (ne_eqb _ _ c.if-state-eq0.false, ← c.is_between.ensures, c.if-is_between.false)
