-- `uri_keys::parse_key` meets its contract: a known key is UTF-8, and of any other the scan tells.
-- Assumes nothing.
use mathlib.Core.Path.{sym, ap, ◌∙◌}
use Rattle.percent_check.specs.declared.Checked.{Checked}
use Rattle.uri_keys.proofs.Keys.{kind-known, kind-utf8, kind-broken}
use Rattle.uri_keys.proofs.parse_key.Goals as goal

pub returns-then-kind-ne0 : goal.returns-then-kind-ne0
returns-then-kind-ne0 c =
    c.param_kind-kind.ensures ∙ sym (kind-known _ (λ z. c.if-kind-ne0.true (c.param_kind-kind.ensures ∙ z)))

pub returns-then-c : goal.returns-then-c
returns-then-c c =
    let p = c in
    sym (kind-utf8 _ (sym (ap (λ (x : Checked). x.utf8) c.check-c.ensures) ∙ c.if-c.true) ∙ sym p.param_kind-kind.ensures ∙ c.if-kind-ne0.false)

pub returns-else-c : goal.returns-else-c
returns-else-c c =
    sym (kind-broken _ (sym (ap (λ (x : Checked). x.utf8) c.check-c.ensures) ∙ c.if-c.false))
