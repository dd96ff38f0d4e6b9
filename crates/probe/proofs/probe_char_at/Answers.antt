use Rattle.probe.specs.Answers.{symbol}
use mathlib.Core.Path.{ap}
use Rattle.probe.proofs.probe_char_at.Goals as goal

pub returns : goal.returns
returns c =
    ap symbol c.char_at-c.ensures
