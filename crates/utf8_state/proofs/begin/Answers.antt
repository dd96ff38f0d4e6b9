use borrow.Author.Tests.{le-ltb}
use Rattle.utf8_state.specs.Bytewise.{first_state}
use Rattle.byte.proofs.Tests.{tests}
use Rattle.utf8_state.proofs.begin.Goals as goal

pub returns-then-a-lt128 : goal.returns-then-a-lt128
unfolding first_state
returns-then-a-lt128 c =
    search tests

pub returns-then-is_between : goal.returns-then-is_between
unfolding first_state
returns-then-is_between c =
    simp (le-ltb _ _ c.if-a-lt128.false, ← c.is_between.ensures, c.if-is_between.true)

pub returns-then-is_between-2 : goal.returns-then-is_between-2
unfolding first_state
returns-then-is_between-2 c =
    let g = c in
    let e = g in
    simp (le-ltb _ _ e.if-a-lt128.false, ← e.is_between.ensures, e.if-is_between.false, ← c.is_between-2.ensures, c.if-is_between-2.true, g.greatest_of-hi.ensures, g.least_of-lo.ensures)

pub returns-then-is_between-3 : goal.returns-then-is_between-3
unfolding first_state
returns-then-is_between-3 c =
    let f = c in
    let g = f in
    let e = g in
    simp (le-ltb _ _ e.if-a-lt128.false, ← e.is_between.ensures, e.if-is_between.false, ← f.is_between-2.ensures, f.if-is_between-2.false, ← c.is_between-3.ensures, c.if-is_between-3.true, g.greatest_of-hi.ensures, g.least_of-lo.ensures)

pub returns : goal.returns
unfolding first_state
returns c =
    let f = c in
    let e = f in
    simp (le-ltb _ _ e.if-a-lt128.false, ← e.is_between.ensures, e.if-is_between.false, ← f.is_between-2.ensures, f.if-is_between-2.false, ← c.is_between-3.ensures, c.if-is_between-3.false)
