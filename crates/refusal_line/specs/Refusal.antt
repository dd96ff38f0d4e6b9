-- The line that the program writes for a refusal: "`refused` with a blank, the number and 0x0A".
-- Assumes nothing.
use Rattle.std.specs.Prelude.{ℕ, List, [], ◌∷◌, ◌++◌}
use Rattle.byte.specs.Ascii.{bytes}
use Rattle.decimal.specs.Decimal.{decimal}

unfoldable pub refusal_line : ℕ → List ℕ
refusal_line number = bytes "refused " ++ decimal number ++ (10 ∷ [])
