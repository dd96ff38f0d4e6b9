-- `uri_step::parse_database` meets its contract: nothing up to `?`, or a dbname.
-- Assumes nothing.
use mathlib.Core.Path.{sym, ◌∙◌}
use Rattle.url_parser.proofs.Judged.{database-judged, database-empty}
use Rattle.uri_step.proofs.parse_database.Goals as goal

pub returns-then-end-at : goal.returns-then-end-at
returns-then-end-at c =
    let a = c.args in
    c.parse_params.ensures ∙ sym (database-empty a.at a.s.now _ c.check_until-dbname.ensures c.if-end-at.true)

pub returns : goal.returns
returns c =
    let a = c.args in
    c.decode.ensures ∙ database-judged a.at a.s.now _ c.check_until-dbname.ensures c.if-end-at.false
