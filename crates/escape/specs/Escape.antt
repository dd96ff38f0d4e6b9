-- How bytes are escaped, by document 01.
-- Assumes nothing.
use Rattle.std.specs.Prelude.{ℕ, Bool, true, ◌&&◌, not, List, [], ◌∷◌, map, eqb}
use Rattle.byte.specs.Byte.{pick, between}
use Rattle.decimal.specs.Decimal.{hex_digits}

-- "Bytes 0x21 to 0x7E save `%` stand as they are; others as `%` and two upper-case hex digits."
abbrev pub plain : ℕ → Bool
plain b = between 0x21 0x7E b && not (eqb b 37)

-- whether all bytes of a text stand as they are
unfoldable pub all_plain : List ℕ → Bool
all_plain [] = true
all_plain (b ∷ x) = plain b && all_plain x

unfoldable pub escape : ℕ → List ℕ
escape b = pick (plain b) (b ∷ []) (37 ∷ hex_digits true 2 b)

unfoldable pub text_value : List ℕ → List (List ℕ)
text_value x = map escape x
