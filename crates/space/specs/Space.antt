-- White space, as document 01 lists it: ranges and single code points.
-- Assumes nothing.
use Rattle.std.specs.Prelude.{ℕ, Bool, false, ◌||◌, List, [], ◌∷◌}
use Rattle.byte.specs.Byte.{between}
use Rattle.space.specs.declared.Range.{Range}

-- from one code point to another, and one code point by itself
infixl 70 ◌to◌
abbrev pub ◌to◌ : ℕ → ℕ → Range
a to b = record { 0 = a; 1 = b }

abbrev pub only : ℕ → Range
only a = a to a

-- "White space is these 25 code points: U+0009 to U+000D, 0020, 0085, 00A0, 1680, 2000 to 200A, 2028, 2029, 202F, 205F, 3000."
unfoldable pub spaces : List Range
spaces =
    0x9 to 0xd ∷ only 0x20 ∷ only 0x85 ∷ only 0xa0 ∷ only 0x1680 ∷ 0x2000 to 0x200a ∷ only 0x2028 ∷ only 0x2029 ∷ only 0x202f ∷ only 0x205f ∷ only 0x3000 ∷ []

-- whether c lies in one of the ranges
unfoldable pub within : List Range → ℕ → Bool
within [] c = false
within (r ∷ rs) c = between r.0 r.1 c || within rs c

-- whether a code point is white space
unfoldable pub is_space : ℕ → Bool
is_space c = within spaces c
