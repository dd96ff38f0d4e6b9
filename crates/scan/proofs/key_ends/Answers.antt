-- `key_ends` meets its contract: `=`, or white space. Assumes nothing.
use mathlib.Core.Path.{sym, ◌∙◌}
use Rattle.scan.proofs.Rules.{sign-ends, sign-not}
use Rattle.scan.proofs.key_ends.Goals as goal

pub returns-then-at-eq61 : goal.returns-then-at-eq61
returns-then-at-eq61 c =
    let a = c.args in
    sym (sign-ends a.s.now a.at (sym c.at.ensures ∙ c.if-at-eq61.true))

pub returns : goal.returns
returns c =
    let e = c in
    let a = e.args in
    c.starts_space.ensures ∙ sign-not a.s.now a.at (λ q. e.if-at-eq61.false (e.at.ensures ∙ q))
