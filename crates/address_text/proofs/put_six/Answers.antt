use Rattle.draw.proofs.Drawing.{draw-then}
use Rattle.line.specs.Line.{kind_value}
use Rattle.address_text.proofs.put_six.Goals as goal

pub returns : goal.returns
unfolding kind_value
returns c =
    let p = c in
    let q = p in
    draw-then _ _ _ _ _ q.put_quad-a.ensures (draw-then _ _ _ _ _ q.put_byte-b.ensures p.put_quad.ensures)
