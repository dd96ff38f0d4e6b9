use Rattle.probe.specs.Answers.{measured}
use mathlib.Core.Path.{ap}
use Rattle.probe.proofs.probe_check.Goals as goal

pub returns : goal.returns
returns c =
    ap measured c.check-m.ensures
