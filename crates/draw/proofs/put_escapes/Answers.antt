use Rattle.draw.proofs.Escape.{text-more, text-done}
use Rattle.draw.proofs.put_escapes.Goals as goal

pub loop-i-preserved : goal.loop-i-preserved
loop-i-preserved c =
    let p = c in
    let l = p in
    text-more _ _ _ l.loop-i.i l.loop-i.invariant l.loop-i-test.true _ p.put_escape-p.ensures

pub returns : goal.returns
returns c =
    text-done _ _ _ c.loop-i.i c.loop-i.invariant c.loop-i-test.false
