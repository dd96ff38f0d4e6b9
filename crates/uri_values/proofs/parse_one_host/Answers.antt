-- `uri_values::parse_one_host` meets its contract: what stands up to `&`, judged as a host.
-- Assumes nothing.
use mathlib.Core.Path.{◌∙◌}
use Rattle.url_parser.proofs.Branches.{value-given}
use Rattle.uri_values.proofs.parse_one_host.Goals as goal

pub returns : goal.returns
returns c =
    let a = c.args in
    c.decode.ensures
    ∙ value-given a.at a.s.now _ c.find-end.ensures 20 _ c.part.ensures _ c.host_param-judged.ensures _ c.skip.ensures
