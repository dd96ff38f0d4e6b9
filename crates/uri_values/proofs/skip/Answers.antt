-- `uri_values::skip` meets its contract: a byte stands at the place, or the text ends there.
-- Assumes nothing.
use Rattle.url_parser.proofs.Branches.{skip-one, skip-none}
use mathlib.Core.Path.{sym}
use Rattle.uri_values.proofs.skip.Goals as goal

pub returns-then-at-s : goal.returns-then-at-s
returns-then-at-s c =
    sym (skip-one c.args.at c.args.s.now c.if-at-s.true)

pub returns-else-at-s : goal.returns-else-at-s
returns-else-at-s c =
    sym (skip-none c.args.at c.args.s.now c.if-at-s.false)
