-- `keyword` meets its contract: each turn leaves the run's end where it is; a byte above `=` that begins no white space is passed over. Assumes nothing.
use mathlib.Core.Path.{sym, ◌∙◌}
use native.Mathlib.Omega.{arith}
use Rattle.scan.specs.Scan.{key_len}
use Rattle.scan.proofs.Runs.{end-past}
use Rattle.scan.proofs.Rules.{key-stop, key_more, key-glance}
use Rattle.scan.proofs.keyword.Goals as goal

pub loop-i-preserved-then-is_between : goal.loop-i-preserved-then-is_between
loop-i-preserved-then-is_between c =
    let l = c in
    let s = l.args.s.now in
    (omega arith, l.loop-i.invariant.1 ∙ key_more s l.loop-i.i (omega arith) (key-glance s l.loop-i.i (sym c.is_between.ensures ∙ c.if-is_between.true)))

pub returns-then-key_ends : goal.returns-then-key_ends
returns-then-key_ends c =
    let l = c in
    sym (l.loop-i.invariant.1 ∙ key-stop l.args.s.now l.loop-i.i (sym c.key_ends.ensures ∙ c.if-key_ends.true))

pub loop-i-preserved : goal.loop-i-preserved
loop-i-preserved c =
    let l = c in
    (omega arith, l.loop-i.invariant.1 ∙ key_more l.args.s.now l.loop-i.i (omega arith) (sym c.key_ends.ensures ∙ c.if-key_ends.false))

pub returns : goal.returns
returns c =
    omega (arith, c.max.ensures, c.loop-i.invariant.0, c.loop-i.invariant.1, end-past key_len c.args.s.now c.loop-i.i (omega arith))
