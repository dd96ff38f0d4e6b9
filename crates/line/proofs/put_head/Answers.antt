use Rattle.draw.proofs.Drawing.{draw-then}
use Rattle.line.proofs.put_head.Goals as goal

pub returns : goal.returns
returns c =
    let p = c in draw-then _ _ _ _ _ p.put_key-p.ensures p.put_byte.ensures
