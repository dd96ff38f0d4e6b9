use Rattle.report_lines.proofs.Groups.{words-drawn}
use Rattle.report_lines.proofs.put_words.Goals as goal

pub returns : goal.returns
returns c =
    words-drawn _ _ _ _ _ _ _ _ _ c.target_number.ensures c.word_line-attrs.ensures c.binding_number.ensures c.word_line-channel.ensures c.balance_number.ensures c.word_line.ensures
