use Rattle.line.specs.Line.{host_value}
use Rattle.draw.proofs.Drawing.{draw-then}
use Rattle.line.proofs.Line.{line-drawn}
use Rattle.lines.proofs.host_line.Goals as goal

pub returns : goal.returns
unfolding host_value
returns c =
    line-drawn _ _ _ _ _ _ c.put_head-head.ensures (draw-then _ _ _ _ _ c.put_kind-kind.ensures c.put_text-value.ensures) c.put_byte.ensures
