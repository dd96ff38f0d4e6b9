-- `number_of` meets its contract: one comparison, with the one key that the text may be. Assumes nothing.
use mathlib.Core.Path.{sym, ◌∙◌}
use Rattle.key_match.proofs.Told.{present, other}
use Rattle.key_match.proofs.number_of.Goals as goal

pub returns-then-is_key : goal.returns-then-is_key
returns-then-is_key c =
    present _ _ c.likely_key-key.ensures.0 (sym c.is_key.ensures ∙ c.if-is_key.true)

pub returns-else-is_key : goal.returns-else-is_key
returns-else-is_key c =
    let k = c.likely_key-key in
    other _ _ k.ensures.1 k.ensures.0 (sym c.is_key.ensures ∙ c.if-is_key.false)
