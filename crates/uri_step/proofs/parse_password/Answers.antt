-- `uri_step::parse_password` meets its contract: what stands up to `@`.
-- Assumes nothing.
use Rattle.url_parser.proofs.Judged.{password-judged}
use Rattle.uri_step.proofs.parse_password.Goals as goal

pub returns : goal.returns
returns c =
    let a = c.args in
    password-judged a.at a.s.now _ c.check_until-password.ensures _ c.skip.ensures
