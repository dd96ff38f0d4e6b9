use Rattle.probe_record.proofs.Laws.{refused-plain}
use Rattle.probe_record.proofs.settle.Goals as goal

pub returns-then-e-ne0 : goal.returns-then-e-ne0
returns-then-e-ne0 c =
    rw c.new-config-then-e-ne0.ensures (refused-plain _ _ _ c.settle_into-e.ensures.value c.if-e-ne0.true)
