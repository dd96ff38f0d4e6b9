use mathlib.Core.Path.{sym}
use native.Mathlib.Omega.{arith}
use Rattle.byte.proofs.Parts.{part-is, part-empty, part-past, part-rest}
use Rattle.byte.proofs.part.Goals as goal

pub returns-then-e-s : goal.returns-then-e-s
returns-then-e-s c =
    let a = c.args in sym (part-is a.a a.e a.s.now)

pub returns-then-e-a : goal.returns-then-e-a
returns-then-e-a c =
    let a = c.args in sym (part-empty a.a a.e a.s.now c.if-e-a.true)

pub returns-then-s-a : goal.returns-then-s-a
returns-then-s-a c =
    let a = c.args in sym (part-past a.a a.e a.s.now c.if-s-a.true)

pub returns : goal.returns
returns c =
    let a = c.args in sym (part-rest a.a a.e a.s.now (omega arith))
