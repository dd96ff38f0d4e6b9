use Rattle.draw.proofs.Drawing.{draw-then}
use Rattle.address_text.proofs.put_grouped.Goals as goal

pub returns : goal.returns
returns c =
    let p = c in draw-then _ _ _ _ _ p.put_group-p.ensures p.put_byte.ensures
