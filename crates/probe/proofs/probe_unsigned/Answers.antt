use Rattle.probe.specs.Answers.{told}
use mathlib.Core.Path.{ap, ◌∙◌}
use Rattle.probe.proofs.probe_unsigned.Goals as goal

pub returns : goal.returns
returns c =
    c.tell.ensures ∙ ap told c.read_unsigned.ensures
