-- `split::find`: the whole answer is what it is from here on.
-- Assumes nothing.
use native.Mathlib.Omega.{arith}
use Rattle.split.proofs.Split.{first-here, first_on, first-end}
use Rattle.split.proofs.find.Goals as goal

pub returns-then-s-from : goal.returns-then-s-from
returns-then-s-from c = omega (arith, first-end c.args.b c.args.s.now c.args.from (omega arith))

pub returns-then-s-i : goal.returns-then-s-i
returns-then-s-i c =
    let l = c in omega (arith, first-here l.args.b l.args.s.now l.loop-i.i (omega arith) c.if-s-i.true)

pub loop-i-preserved : goal.loop-i-preserved
loop-i-preserved c =
    let l = c in omega (arith, first_on l.args.b l.args.s.now l.loop-i.i (omega arith) c.if-s-i.false)

pub returns : goal.returns
returns c =
    let l = c in omega (arith, first-end l.args.b l.args.s.now l.loop-i.i (omega arith))
