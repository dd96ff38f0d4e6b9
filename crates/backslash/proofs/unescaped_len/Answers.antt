-- `unescaped_len` meets its contract: counts the bytes that are added. Assumes nothing.
use mathlib.Core.Path.{ap}
use native.Mathlib.Omega.{arith}
use lib.ListN.{length}
use Rattle.backslash.proofs.Pieces.{sign-on, sign-off, sign-past}
use Rattle.backslash.proofs.unescaped_len.Goals as goal

pub loop-b-preserved-then-is_sign : goal.loop-b-preserved-then-is_sign
loop-b-preserved-then-is_sign c =
    let l = c.loop-b in
    (omega (arith, l.invariant.0), omega (arith, l.invariant.1, ap length (sign-on c.args.raw.now l.b-index l.behind _ c.loop-b-test.true c.is_sign.ensures c.if-is_sign.true)))

pub loop-b-preserved : goal.loop-b-preserved
loop-b-preserved c =
    let l = c.loop-b in
    (omega (arith, l.invariant.0), omega (arith, l.invariant.1, ap length (sign-off c.args.raw.now l.b-index l.behind _ c.loop-b-test.true c.is_sign.ensures c.if-is_sign.false)))

pub returns : goal.returns
returns c =
    let l = c.loop-b in omega (arith, l.invariant.1, ap length (sign-past c.args.raw.now l.b-index l.behind (omega arith)))
