-- `uri_step::parse_host` meets its contract: no host part, or a chunk.
-- Assumes nothing.
use mathlib.Core.Path.{sym, ◌∙◌}
use Rattle.url_parser.proofs.Branches.{host-end, host-none, host-some}
use Rattle.uri_step.proofs.parse_host.Goals as goal

pub returns-then-s-at : goal.returns-then-s-at
returns-then-s-at c =
    let a = c.args in c.parse_path.ensures ∙ sym (host-end a.at a.s.now c.if-s-at.true)

pub returns-then-ends_hosts : goal.returns-then-ends_hosts
returns-then-ends_hosts c =
    let a = c.args in
    c.parse_path-then-ends_hosts.ensures ∙ sym (host-none a.at a.s.now c.if-s-at.false (sym c.ends_hosts.ensures ∙ c.if-ends_hosts.true))

pub returns : goal.returns
returns c =
    let a = c.args in
    c.parse_chunk.ensures ∙ sym (host-some a.at a.s.now c.if-s-at.false (sym c.ends_hosts.ensures ∙ c.if-ends_hosts.false))
