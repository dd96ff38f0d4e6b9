use Rattle.probe.specs.Answers.{lacking}
use mathlib.Core.Path.{ap}
use Rattle.probe.proofs.probe_start.Goals as goal

pub returns : goal.returns
returns c =
    ap lacking c.start-s.ensures
