use Rattle.outcome.proofs.Refusals.{refused-plain}
use Rattle.reader.proofs.read.Goals as goal

pub returns-then-e-ne0-clause-value : goal.returns-then-e-ne0-clause-value
returns-then-e-ne0-clause-value c =
    rw c.new-config-then-e-ne0.ensures (refused-plain _ _ _ c.read_into-e.ensures.value c.if-e-ne0.true)
