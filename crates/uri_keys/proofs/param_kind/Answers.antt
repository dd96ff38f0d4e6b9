-- `uri_keys::param_kind` meets its contract: a known key is decoded already, and any other is looked up decoded.
-- Assumes nothing.
use mathlib.Core.Path.{sym, ◌∙◌}
use Rattle.uri_keys.proofs.Keys.{raw-host, raw-other}
use Rattle.uri_keys.proofs.param_kind.Goals as goal

pub returns-then-known-eq-HOST_KEY : goal.returns-then-known-eq-HOST_KEY
returns-then-known-eq-HOST_KEY c =
    sym (raw-host _ (sym c.key_number-known.ensures ∙ c.if-known-eq-HOST_KEY.true))

pub returns-then-known-ne0 : goal.returns-then-known-ne0
returns-then-known-ne0 c =
    let e = c.key_number-known.ensures in
    e ∙ sym (raw-other _ (λ z. c.if-known-eq-HOST_KEY.false (e ∙ z)) (λ z. c.if-known-ne0.true (e ∙ z)))

pub returns : goal.returns
returns c =
    c.decoded_kind.ensures
