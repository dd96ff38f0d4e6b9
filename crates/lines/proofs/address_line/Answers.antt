use Rattle.line.proofs.Line.{line-drawn}
use Rattle.lines.proofs.address_line.Goals as goal

pub returns : goal.returns
returns c =
    line-drawn _ _ _ _ _ _ c.put_head-head.ensures c.put_address-value.ensures c.put_byte.ensures
