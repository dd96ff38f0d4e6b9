-- `uri_chunks::chunk_end` meets its contract: the whole answer is what it is from here on.
-- Assumes nothing.
use mathlib.Core.Path.{sym, ◌∙◌}
use native.Mathlib.Omega.{arith}
use Rattle.url_parser.specs.Step.{ends_chunk}
use Rattle.url_parser.proofs.Places.{of-here, of-on, of_end}
use Rattle.uri_chunks.proofs.chunk_end.Goals as goal

pub returns-then-ends_chunk : goal.returns-then-ends_chunk
returns-then-ends_chunk c =
    let l = c in
    omega (arith, of-here ends_chunk l.args.s.now l.loop-i.i (omega arith) (sym c.ends_chunk.ensures ∙ c.if-ends_chunk.true))

pub loop-i-preserved : goal.loop-i-preserved
loop-i-preserved c =
    let l = c in
    omega (arith, of-on ends_chunk l.args.s.now l.loop-i.i (omega arith) (sym c.ends_chunk.ensures ∙ c.if-ends_chunk.false))

pub returns : goal.returns
returns c =
    let l = c in
    omega (arith, of_end ends_chunk l.args.s.now l.loop-i.i (omega arith))

pub returns-then-s-at : goal.returns-then-s-at
returns-then-s-at c =
    omega (arith, of_end ends_chunk c.args.s.now c.args.at (omega arith))
