use Rattle.line.specs.Line.{secret_value}
use Rattle.line.proofs.Line.{line-drawn}
use Rattle.lines.proofs.secret_line.Goals as goal

pub returns : goal.returns
unfolding secret_value
returns c =
    line-drawn _ _ _ _ _ _ c.put_head-head.ensures c.put_byte-value.ensures c.put_byte.ensures
