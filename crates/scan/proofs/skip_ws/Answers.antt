-- `skip_ws` meets its contract: with a solid byte the run stops at once. Assumes nothing.
use mathlib.Core.Path.{sym, ap, ◌∙◌}
use Rattle.scan.specs.Scan.{solid, space_len}
use Rattle.scan.proofs.Runs.{end-stop}
use Rattle.scan.proofs.Rules.{solid-len}
use Rattle.scan.proofs.skip_ws.Goals as goal

pub returns-then-is_solid : goal.returns-then-is_solid
returns-then-is_solid c =
    let a = c.args in
    let b = c in
    sym (end-stop space_len a.s.now a.at (solid-len a.s.now a.at (ap solid (sym b.at.ensures) ∙ sym b.is_solid.ensures ∙ c.if-is_solid.true)))

pub returns : goal.returns
returns c =
    c.skip_spaces.ensures
