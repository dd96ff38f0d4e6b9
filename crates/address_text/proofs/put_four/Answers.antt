use Rattle.draw.proofs.Drawing.{draw-then}
use Rattle.line.specs.Line.{four_value}
use Rattle.address_text.proofs.put_four.Goals as goal

pub returns : goal.returns
unfolding four_value
returns c =
    let p = c in
    let q = p in
    let r = q in
    draw-then _ _ _ _ _ r.put_dotted-a.ensures (draw-then _ _ _ _ _ r.put_dotted-b.ensures (draw-then _ _ _ _ _ q.put_dotted-c.ensures p.put_number.ensures))
