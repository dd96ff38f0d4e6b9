use mathlib.Core.Path.{◌≡◌}
use lib.ListN.{drop}
use Rattle.escape.specs.Escape.{text_value}
use Rattle.draw.specs.Pen.{sheet, drawn}
use Rattle.draw.proofs.put_escapes.Given as goal

abbrev pub invariant-loop-i : goal.invariant-loop-i
invariant-loop-i l = drawn (sheet l.initial.dst l.initial.p) (text_value l.x) ≡ drawn (sheet l.dst l.p) (text_value (drop l.i l.x))
