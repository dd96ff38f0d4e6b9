-- `first` meets its contract: the first decoded byte is that of the piece at the start. Assumes nothing.
use mathlib.Core.Path.{sym, ap, ◌∙◌}
use Rattle.percent.specs.declared.Piece.{Piece}
use Rattle.percent.proofs.Laws.{head}
use Rattle.percent.proofs.first.Goals as goal

pub returns : goal.returns
returns c =
    ap (λ (p : Piece). p.byte) c.piece_at-p.ensures ∙ sym (head c.args.s.now)
