use Rattle.list_setters.proofs.Settled.{port_settled}
use Rattle.list_setters.proofs.port.Goals as goal

pub returns-then-answer-eq0 : goal.returns-then-answer-eq0
returns-then-answer-eq0 c =
    port_settled _ _ _ c.believed-answer.ensures c.if-answer-eq0.true _ _ _ _ c.keep-kept.ensures.value c.keep-kept.ensures.list_after c.number_of.ensures
