-- `ipv4::is_zero_led`: two tests, in the definition's order.
-- Assumes nothing.
use borrow.Author.Tests.{eq-eqb, ne_eqb}
use Rattle.ipv4.proofs.is_zero_led.Goals as goal

pub returns-then-at-ne48 : goal.returns-then-at-ne48
returns-then-at-ne48 c =
    simp (← c.at.ensures, ne_eqb _ _ c.if-at-ne48.true)

pub returns : goal.returns
returns c =
    simp (← c.at.ensures, eq-eqb _ _ c.if-at-ne48.false)
