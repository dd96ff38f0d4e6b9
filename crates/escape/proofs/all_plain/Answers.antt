use native.Mathlib.Omega.{arith}
use Rattle.escape.proofs.Plain.{plain_more, plain_done}
use Rattle.escape.proofs.all_plain.Goals as goal

pub loop-b-preserved : goal.loop-b-preserved
loop-b-preserved c =
    plain_more _ _ c.loop-b.b-index c.loop-b.invariant c.loop-b-test.true _ _ c.mark.ensures c.max-most.ensures

pub returns : goal.returns
returns c =
    plain_done _ c.loop-b.most c.loop-b.b-index c.loop-b.invariant (omega arith)
