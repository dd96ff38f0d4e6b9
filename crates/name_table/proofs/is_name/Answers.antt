-- `is_name` meets its contract: the lengths first, and then the bytes in turn. Assumes nothing.
use mathlib.Core.Path.{sym, ap, ◌∙◌}
use native.Mathlib.Omega.{arith}
use Rattle.byte.specs.Same.{same}
use Rattle.byte.proofs.Same.{same-lengths, same-on, same-off, same_end}
use Rattle.name_table.proofs.is_name.Goals as goal

pub returns-then-s-wanted : goal.returns-then-s-wanted
returns-then-s-wanted c =
    sym (same-lengths c.args.s.now c.name-wanted.result.now c.if-s-wanted.true) ∙ ap (same c.args.s.now) c.name-wanted.ensures

pub returns-then-s-k : goal.returns-then-s-k
returns-then-s-k c =
    let s = c.args.s.now in
    let w = c.name-wanted.result.now in
    sym (c.loop-k.invariant ∙ same-off s w c.loop-k.k (omega arith) (omega arith) c.if-s-k.true) ∙ ap (same s) c.name-wanted.ensures

pub loop-k-preserved : goal.loop-k-preserved
loop-k-preserved c =
    c.loop-k.invariant ∙ same-on c.args.s.now c.name-wanted.result.now c.loop-k.k (omega arith) (omega arith) c.if-s-k.false

pub returns : goal.returns
returns c =
    let s = c.args.s.now in
    let w = c.name-wanted.result.now in
    sym (c.loop-k.invariant ∙ same_end s w c.loop-k.k (omega arith) (omega arith)) ∙ ap (same s) c.name-wanted.ensures
