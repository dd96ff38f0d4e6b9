-- `check_bytes` meets its contract: the decoded bytes are counted, and judged by the state of UTF-8 in the same turn. Assumes nothing.
use mathlib.Core.Path.{ap, ◌∙◌}
use native.Mathlib.Omega.{arith}
use lib.ListN.{length}
use Rattle.percent.proofs.Laws.{shorter}
use Rattle.percent_check.proofs.Judging.{judged, judge-done, told}
use Rattle.percent_check.proofs.check_bytes.Goals as goal

pub overflow_add-len : goal.overflow_add-len
overflow_add-len c = omega (arith, c.loop-b.invariant.0, ap length c.in-Some.ensures.steps, shorter c.args.s.now)

pub loop-b-preserved : goal.loop-b-preserved
loop-b-preserved c =
    let l = c.loop-b in
    (omega (arith, l.invariant.0, ap length c.in-Some.ensures.steps), rw c.next-state.ensures (judged c.args.s.now l.state _ l.invariant.1 c.in-Some.b _ c.in-Some.ensures.steps))

pub returns : goal.returns
returns c =
    let l = c.loop-b in
    let e = c.in-None.ensures.steps.0 in
    told c.args.s.now _ _ (omega (arith, l.invariant.0, ap length e)) (c.is_whole-utf8.ensures ∙ judge-done c.args.s.now l.state _ l.invariant.1 e)
