-- `plain_until` meets its contract: the whole answer is what it is from here on. Assumes nothing.
use mathlib.Core.Path.{sym, ◌∙◌}
use native.Mathlib.Omega.{arith}
use Rattle.percent_check.proofs.Runs.{run-here, run_on, run_end}
use Rattle.percent_check.proofs.plain_until.Goals as goal

pub returns-then-ends_plain : goal.returns-then-ends_plain
returns-then-ends_plain c =
    let l = c in
    let a = l.args in
    omega (arith, run-here a.stop a.s.now l.loop-i.i (omega arith) (sym c.ends_plain.ensures ∙ c.if-ends_plain.true))

pub loop-i-preserved : goal.loop-i-preserved
loop-i-preserved c =
    let l = c in
    let a = l.args in
    omega (arith, run_on a.stop a.s.now l.loop-i.i (omega arith) (sym c.ends_plain.ensures ∙ c.if-ends_plain.false))

pub returns : goal.returns
returns c =
    let l = c in
    let a = l.args in
    omega (arith, run_end a.stop a.s.now l.loop-i.i (omega arith))

pub returns-then-s-from : goal.returns-then-s-from
returns-then-s-from c =
    let a = c.args in
    omega (arith, run_end a.stop a.s.now a.from (omega arith))
