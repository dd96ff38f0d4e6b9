use Rattle.probe_record.specs.Settled.{told}
use Rattle.probe_record.proofs.probe_settings.Goals as goal

pub returns-clause-value : goal.returns-clause-value
unfolding told
returns-clause-value c =
    rw (c.tell_len.ensures, c.report-a.ensures.value, c.settle-s.ensures)
