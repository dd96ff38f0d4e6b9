use mathlib.Core.Path.{sym, ◌∙◌}
use Rattle.decimal.proofs.Fixed.{byte_small, byte-large}
use Rattle.decimal.proofs.digit_byte.Goals as goal

pub returns-then-d-lt10 : goal.returns-then-d-lt10
returns-then-d-lt10 c =
    sym (byte_small _ _ c.if-d-lt10.true)

pub returns-then-upper : goal.returns-then-upper
returns-then-upper c =
    sym (byte-large _ _ c.if-d-lt10.false ∙ rw c.if-upper.true)

pub returns : goal.returns
returns c =
    sym (byte-large _ _ c.if-d-lt10.false ∙ rw c.if-upper.false)
