-- `uri_step::parse_value` meets its contract: what stands up to `&`, one host apart.
-- Assumes nothing.
use mathlib.Core.Path.{sym, ap, ◌∙◌}
use Prim.Native.Nat.{ℕ}
use lib.ListN.{drop}
use Rattle.url_parser.specs.Step.{value_step}
use Rattle.url_parser.proofs.Judged.{value-judged}
use Rattle.uri_step.proofs.parse_value.Goals as goal

pub returns-then-kind-eq-ONE_HOST : goal.returns-then-kind-eq-ONE_HOST
returns-then-kind-eq-ONE_HOST c =
    let a = c.args in
    c.parse_one_host.ensures ∙ ap (λ (k : ℕ). value_step k a.at (drop a.at a.s.now)) (sym c.if-kind-eq-ONE_HOST.true)

pub returns : goal.returns
returns c =
    let a = c.args in
    c.decode.ensures ∙ value-judged a.at a.s.now _ c.check_until-value.ensures a.kind c.if-kind-eq-ONE_HOST.false _ c.skip.ensures
