-- `greatest_in` meets its contract: as long as the greatest byte is ASCII, what follows decides. Assumes nothing.
use mathlib.Core.Path.{ap, ◌∙◌}
use native.Mathlib.Omega.{arith}
use Rattle.utf8.specs.declared.Char.{Char}
use Rattle.utf8.proofs.Laws.{good, ascii, end}
use Rattle.utf8_valid.proofs.greatest_in.Goals as goal

pub loop-b-preserved : goal.loop-b-preserved
loop-b-preserved c =
    let s = c.args.s.now in
    let i = c.loop-b.b-index in
    λ h. c.loop-b.invariant (omega (arith, h, c.max-greatest.ensures))
    ∙ good s i (omega arith) 1 (ap (λ (x : Char). x.len) (ascii s i (omega arith) (omega (arith, h, c.max-greatest.ensures)))) (omega arith)

pub returns : goal.returns
returns c = λ h. c.loop-b.invariant h ∙ end c.args.s.now c.loop-b.b-index (omega arith)
