use Rattle.report_lines.proofs.Groups.{times-drawn}
use Rattle.report_lines.proofs.put_times.Goals as goal

pub returns : goal.returns
returns c =
    times-drawn _ _ _ _ _ _ _ _ _ c.put_seconds-connect.ensures c.put_seconds-user.ensures c.put_switch-keepalives.ensures c.number_line-idle.ensures c.put_seconds-interval.ensures c.put_retries.ensures
