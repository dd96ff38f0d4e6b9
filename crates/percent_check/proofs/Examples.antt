-- Worked examples of what a scan tells of a decoded text: a table under one statement.
-- Assumes nothing.
use mathlib.Core.Path.{◌≡◌, refl}
use mathlib.Core.Bool.{Bool, true, false, ◌&&◌, not}
use mathlib.Core.List.{List, [], ◌∷◌}
use Prim.Native.Nat.{ℕ}
use lib.Dec.{eqb}
use Rattle.byte.specs.Ascii.{bytes}
use Rattle.byte.specs.Byte.{pick, between}
use Rattle.byte.specs.Digit.{digit_of}
use Rattle.utf8.specs.Utf8.{char_at, char_of, longer, two, three, four, least, greatest, well_from}
use Rattle.percent.specs.Percent.{piece_of, piece_at, decoded_from, decoded}
use Rattle.percent_check.specs.Plain.{checked}

-- a scan tells this length, and whether it is UTF-8
pub data Example : Type 0 where
  tells : List ℕ → ℕ → Bool → Example

abbrev pub holds : Example → Bool
holds (tells text n u) = eqb (checked text).len n && pick u (checked text).utf8 (not (checked text).utf8)

abbrev pub all_hold : List Example → Bool
all_hold [] = true
all_hold (e ∷ es) = holds e && all_hold es

abbrev pub checks : List Example
checks =
    tells (bytes "") 0 true ∷
    tells (bytes "%C3%A9") 2 true ∷
    tells (0xc3 ∷ bytes "%a9") 2 true ∷
    tells (bytes "%C3") 1 false ∷
    tells (bytes "%FF") 1 false ∷
    tells (bytes "%c3%28") 2 false ∷
    tells (bytes "%zz") 3 true ∷
    tells (bytes "%ED%A0%80") 3 false ∷
    []

pub checks-hold : all_hold checks ≡ true
unfolding decoded decoded_from piece_at piece_of digit_of between well_from char_at char_of longer two three four least greatest
checks-hold = refl
