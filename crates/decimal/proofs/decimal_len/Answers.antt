use native.Mathlib.Omega.{arith}
use Rattle.decimal.proofs.Laws.{decimal-one-long, decimal-longer, decimal-most}
use Rattle.decimal.proofs.decimal_len.Goals as goal

pub loop-m-init : goal.loop-m-init
loop-m-init c =
    (omega arith, omega arith)

pub overflow_add-len : goal.overflow_add-len
overflow_add-len c =
    omega (arith, decimal-most c.args.n)

pub loop-m-preserved : goal.loop-m-preserved
loop-m-preserved c =
    (omega arith, omega (arith, decimal-longer c.loop-m.m (omega arith) c.loop-m.invariant.0))

pub returns : goal.returns
returns c =
    omega (arith, decimal-one-long c.loop-m.m (omega arith))
