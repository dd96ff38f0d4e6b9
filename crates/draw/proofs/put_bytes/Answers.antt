use mathlib.Core.Path.{refl}
use Rattle.draw.proofs.Drawing.{draw-part}
use Rattle.std.proofs.Common.{rules}
use Rattle.draw.proofs.put_bytes.Goals as goal

pub returns : goal.returns
returns c =
    draw-part _ _ _ _ _ refl c.part.ensures.next _ c.part.ensures.dry (λ e. let h = c.part.ensures.ink e in let m = h.met in search (rules, h.shows, h.leaves))
