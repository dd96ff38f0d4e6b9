use Rattle.report_lines.proofs.Groups.{lists-drawn}
use Rattle.report_lines.proofs.put_lists.Goals as goal

pub returns : goal.returns
returns c =
    lists-drawn _ _ _ _ _ _ _ _ _ _ c.mode_number.ensures c.word_line-sslmode.ensures c.negotiation_number.ensures c.word_line-sslnegotiation.ensures c.put_hosts-host.ensures c.put_addresses-hostaddr.ensures c.put_ports.ensures
