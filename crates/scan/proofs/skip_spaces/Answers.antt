-- `skip_spaces` meets its contract: each turn leaves the run's end where it is, and the run stops where no white space begins. Assumes nothing.
use mathlib.Core.Path.{sym, ◌∙◌}
use native.Mathlib.Omega.{arith}
use Rattle.scan.specs.Scan.{space_len}
use Rattle.scan.proofs.Runs.{end-stop}
use Rattle.scan.proofs.Rules.{Skip, space-more}
use Rattle.scan.proofs.skip_spaces.Goals as goal

pub returns-then-n-eq0 : goal.returns-then-n-eq0
returns-then-n-eq0 c =
    let l = c in
    sym (l.loop-at.invariant ∙ end-stop space_len l.args.s.now l.loop-at.i (sym c.space_len-n.ensures ∙ c.if-n-eq0.true))

pub overflow_add-i : goal.overflow_add-i
overflow_add-i c =
    let here_turn : Skip c.args.s.now c.loop-at.i c.space_len-n.result = space-more _ _ _ c.space_len-n.ensures c.if-n-eq0.false in
    omega (arith, here_turn)

pub loop-at-smaller : goal.loop-at-smaller
loop-at-smaller c =
    let here_turn : Skip c.args.s.now c.loop-at.i c.space_len-n.result = space-more _ _ _ c.space_len-n.ensures c.if-n-eq0.false in
    omega (arith, here_turn, c.if-n-eq0.false)

pub loop-at-preserved : goal.loop-at-preserved
loop-at-preserved c =
    let here_turn : Skip c.args.s.now c.loop-at.i c.space_len-n.result = space-more _ _ _ c.space_len-n.ensures c.if-n-eq0.false in
    c.loop-at.invariant ∙ here_turn.same
