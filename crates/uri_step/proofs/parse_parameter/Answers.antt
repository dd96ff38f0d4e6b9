-- `uri_step::parse_parameter` meets its contract: nothing left, no `=`, a key that is not UTF-8, or a key and its value.
-- Assumes nothing.
use mathlib.Core.Path.{sym, ◌∙◌}
use Rattle.url_parser.proofs.Branches.{parameter-none, parameter-open, parameter-key, key-bad, key-good}
use Rattle.uri_step.proofs.parse_parameter.Goals as goal

pub returns-then-s-at : goal.returns-then-s-at
returns-then-s-at c =
    let a = c.args in sym (parameter-none a.at a.s.now c.if-s-at.true)

pub returns-then-s-end : goal.returns-then-s-end
returns-then-s-end c =
    let a = c.args in
    sym (parameter-open a.at a.s.now _ c.find-end.ensures c.if-s-at.false c.if-s-end.true)

pub returns-then-kind-eq-NO_KEY : goal.returns-then-kind-eq-NO_KEY
returns-then-kind-eq-NO_KEY c =
    let a = c.args in
    sym (key-bad _ _ _ c.if-kind-eq-NO_KEY.true)
    ∙ parameter-key a.at a.s.now _ c.find-end.ensures c.if-s-at.false c.if-s-end.false _ c.part.ensures _ c.parse_key-kind.ensures

pub returns : goal.returns
returns c =
    let a = c.args in
    c.parse_value.ensures ∙ sym (key-good _ _ _ c.if-kind-eq-NO_KEY.false)
    ∙ parameter-key a.at a.s.now _ c.find-end.ensures c.if-s-at.false c.if-s-end.false _ c.part.ensures _ c.parse_key-kind.ensures
