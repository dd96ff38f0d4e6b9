use Rattle.std.proofs.Common.{refl}
use Rattle.setters.specs.Setter.{room, changed}
use Rattle.setters.proofs.Answers.{stored_set}
use Rattle.word_setters.proofs.ssl_mode.Goals as goal

pub returns-then-a-eq0 : goal.returns-then-a-eq0
unfolding room changed
returns-then-a-eq0 c = stored_set 6 _ _ _ c.believed-a.ensures c.if-a-eq0.true refl
