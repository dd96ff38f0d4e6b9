use Rattle.draw.proofs.Drawing.{draw-then}
use Rattle.address_text.proofs.put_dotted.Goals as goal

pub returns : goal.returns
returns c =
    let p = c in draw-then _ _ _ _ _ p.put_number-p.ensures p.put_byte.ensures
