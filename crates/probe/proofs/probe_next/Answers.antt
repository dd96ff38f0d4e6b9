use Rattle.probe.specs.Answers.{lacking}
use mathlib.Core.Path.{ap}
use Rattle.probe.proofs.probe_next.Goals as goal

pub returns : goal.returns
returns c =
    ap lacking c.next-s.ensures
