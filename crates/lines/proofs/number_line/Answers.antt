use Rattle.line.specs.Line.{number_value}
use Rattle.line.proofs.Line.{line-drawn}
use Rattle.lines.proofs.number_line.Goals as goal

pub returns : goal.returns
unfolding number_value
returns c =
    line-drawn _ _ _ _ _ _ c.put_head-head.ensures c.put_number-value.ensures c.put_byte.ensures
