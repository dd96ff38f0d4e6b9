-- `uri_step::parse_credentials` meets its contract: no `@`, a user with a password behind it, or a user alone.
-- Assumes nothing.
use mathlib.Core.Path.{sym, ap, ◌∙◌}
use native.Mathlib.Omega.{arith}
use lib.ListN.{length}
use Rattle.byte.proofs.Parts.{part-most}
use Rattle.split.proofs.Split.{first-most}
use Rattle.percent_check.specs.declared.Part.{Part}
use Rattle.url_parser.proofs.Branches.{no-user}
use Rattle.url_parser.proofs.Judged.{user-judged-first, user-judged-only}
use Rattle.uri_step.proofs.parse_credentials.Goals as goal

pub returns-then-s-end : goal.returns-then-s-end
returns-then-s-end c =
    let a = c.args in
    c.parse_host.ensures ∙ sym (no-user a.at a.s.now _ c.find-end.ensures c.if-s-end.true)

pub overflow_add-colon : goal.overflow_add-colon
overflow_add-colon c =
    let a = c.args in
    omega (arith, ap (λ (r : Part). r.end) c.check_until-user.ensures, first-most 58 c.part.result.now, ap length c.part.ensures, part-most a.at c.find-end.result a.s.now)

pub returns-then-colon-end : goal.returns-then-colon-end
returns-then-colon-end c =
    let a = c.args in
    c.decode.ensures ∙ user-judged-first a.at a.s.now _ c.find-end.ensures c.if-s-end.false _ c.part.ensures _ c.check_until-user.ensures c.if-colon-end.true

pub returns : goal.returns
returns c =
    let a = c.args in
    c.decode-2.ensures ∙ user-judged-only a.at a.s.now _ c.find-end.ensures c.if-s-end.false _ c.part.ensures _ c.check_until-user.ensures c.if-colon-end.false
