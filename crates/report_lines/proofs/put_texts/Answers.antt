use Rattle.report_lines.proofs.Groups.{texts-drawn}
use Rattle.report_lines.proofs.put_texts.Goals as goal

pub returns : goal.returns
returns c =
    texts-drawn _ _ _ _ _ _ _ _ c.put_text-user.ensures c.put_secret-password.ensures c.put_text-dbname.ensures c.put_text-options.ensures c.put_text.ensures
