use Rattle.draw.proofs.Drawing.{draw-then}
use Rattle.line.specs.Line.{quad_value}
use Rattle.address_text.proofs.put_quad.Goals as goal

pub returns : goal.returns
unfolding quad_value
returns c =
    let p = c in
    let q = p in
    let r = q in
    draw-then _ _ _ _ _ r.put_grouped-a.ensures (draw-then _ _ _ _ _ r.put_grouped-b.ensures (draw-then _ _ _ _ _ q.put_grouped-c.ensures p.put_group.ensures))
