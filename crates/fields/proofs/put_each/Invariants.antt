use Rattle.std.proofs.Common.{◌≡◌, ℕ, List}
use Rattle.draw.specs.Pen.{sheet, drawn}
use Rattle.draw.specs.declared.Pen.{Pen}
use Rattle.line.specs.Line.{line}
use Rattle.fields.proofs.Steps.{Left}
use Rattle.fields.proofs.put_each.Given as goal

-- where each call draws its entry's line, the lines of the entries so far are drawn
abbrev pub invariant-loop-entry : goal.invariant-loop-entry
invariant-loop-entry g l =
    (key : ℕ) (f : g.row.T.Denot → List (List ℕ))
    → ((x : g.row.T.Denot) (d : _) (p q : Pen) (e : _) → goal.F-post g l.fn.put x d p q e → sheet e.now q ≡ drawn (sheet d.now p) (line key (f x)))
    → Left key f l.entries (sheet l.fn.dst l.fn.pen) (sheet l.dst l.p) l.entry-index
