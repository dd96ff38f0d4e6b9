use Rattle.line.specs.Line.{word_value}
use Rattle.line.proofs.Line.{line-drawn}
use Rattle.lines.proofs.word_line.Goals as goal

pub returns : goal.returns
unfolding word_value
returns c =
    line-drawn _ _ _ _ _ _ c.put_head-head.ensures c.put_word-value.ensures c.put_byte.ensures
