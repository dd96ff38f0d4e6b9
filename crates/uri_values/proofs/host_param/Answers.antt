-- `uri_values::host_param` meets its contract: a host that is UTF-8 may stand, and of any other the first byte decides.
-- Assumes nothing.
use Rattle.url_parser.proofs.Branches.{host-utf8, host-bytes}
use mathlib.Core.Path.{sym, ap, ◌∙◌}
use Rattle.percent_check.specs.declared.Checked.{Checked}
use Rattle.uri_values.proofs.host_param.Goals as goal

pub returns-then-c : goal.returns-then-c
returns-then-c c =
    c.check-c.ensures ∙ host-utf8 _ (sym (ap (λ (x : Checked). x.utf8) c.check-c.ensures) ∙ c.if-c.true)

pub returns : goal.returns
returns c =
    host-bytes _ _ c.check-c.ensures (sym (ap (λ (x : Checked). x.utf8) c.check-c.ensures) ∙ c.if-c.false) _ c.first-first.ensures
