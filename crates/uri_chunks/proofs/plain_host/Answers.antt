-- `uri_chunks::plain_host` meets its contract: the whole answer is what it is from here on.
-- Assumes nothing.
use mathlib.Core.Path.{sym, ◌∙◌}
use native.Mathlib.Omega.{arith}
use Rattle.url_parser.specs.Step.{ends_plain_host}
use Rattle.url_parser.proofs.Places.{of-here, of-on, of_end}
use Rattle.uri_chunks.proofs.plain_host.Goals as goal

pub returns-then-ends_plain_host : goal.returns-then-ends_plain_host
returns-then-ends_plain_host c =
    let l = c in
    omega (arith, of-here ends_plain_host l.args.s.now l.loop-i.i (omega arith) (sym c.ends_plain_host.ensures ∙ c.if-ends_plain_host.true))

pub loop-i-preserved : goal.loop-i-preserved
loop-i-preserved c =
    let l = c in
    omega (arith, of-on ends_plain_host l.args.s.now l.loop-i.i (omega arith) (sym c.ends_plain_host.ensures ∙ c.if-ends_plain_host.false))

pub returns : goal.returns
returns c =
    let l = c in
    omega (arith, of_end ends_plain_host l.args.s.now l.loop-i.i (omega arith))

pub returns-then-s-at : goal.returns-then-s-at
returns-then-s-at c =
    omega (arith, of_end ends_plain_host c.args.s.now c.args.at (omega arith))
