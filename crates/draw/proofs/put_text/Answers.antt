use mathlib.Core.Path.{sym, ap, ◌∙◌}
use borrow.Author.Tests.{not-false}
use Rattle.draw.specs.declared.Pen.{Pen}
use Rattle.draw.proofs.Plain.{plain-drawn}
use Rattle.draw.proofs.put_text.Goals as goal

pub returns : goal.returns
returns c =
    let p = c in
    let n = p in
    p.put_bytes.ensures ∙ plain-drawn _ _ _ (sym n.all_plain.ensures ∙ not-false _ n.if-not-all_plain.false-raw) (ap (λ (q : Pen). q.ok) (sym n.move_by-next.ensures) ∙ not-false _ n.if-not-next.false)
