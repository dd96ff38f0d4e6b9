use Rattle.report_lines.proofs.Groups.{all-drawn}
use Rattle.report_lines.proofs.put_all.Goals as goal

pub returns : goal.returns
returns c =
    all-drawn _ _ _ _ _ _ _ c.put_texts-texts.ensures c.put_lists-lists.ensures c.put_times-times.ensures c.put_words.ensures
