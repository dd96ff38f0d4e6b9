-- Worked examples of percent decoding: a table under one statement.
-- Assumes nothing.
use mathlib.Core.Path.{◌≡◌, refl}
use mathlib.Core.Bool.{Bool, true, ◌&&◌}
use mathlib.Core.List.{List, [], ◌∷◌}
use Prim.Native.Nat.{ℕ}
use Rattle.byte.specs.Ascii.{bytes}
use Rattle.byte.specs.Byte.{between}
use Rattle.byte.specs.Digit.{digit_of}
use Rattle.byte.specs.Same.{same}
use Rattle.percent.specs.Percent.{piece_of, piece_at, decoded_from, decoded}

-- a text decodes to these bytes
pub data Example : Type 0 where
  gives : List ℕ → List ℕ → Example

abbrev pub holds : Example → Bool
holds (gives text decodes) = same (decoded text) decodes

abbrev pub all_hold : List Example → Bool
all_hold [] = true
all_hold (e ∷ es) = holds e && all_hold es

abbrev pub decodings : List Example
decodings =
    gives (bytes "%%41") (bytes "%A") ∷
    gives (bytes "%4%41") (bytes "%4A") ∷
    gives (bytes "%%%41") (bytes "%%A") ∷
    gives (bytes "%zz%7e") (bytes "%zz~") ∷
    gives (bytes "%") (bytes "%") ∷
    gives (bytes "%4") (bytes "%4") ∷
    gives (bytes "%2C") (bytes ",") ∷
    gives (bytes "%2c") (bytes ",") ∷
    gives (bytes "%aF%Fa") (0xaf ∷ 0xfa ∷ []) ∷
    gives (bytes "%2541") (bytes "%41") ∷
    gives (bytes "a%00b") (0x61 ∷ 0 ∷ 0x62 ∷ []) ∷
    gives (bytes "a+b") (bytes "a+b") ∷
    gives (bytes "%4g%g4") (bytes "%4g%g4") ∷
    gives (bytes "") (bytes "") ∷
    []

pub decodings-hold : all_hold decodings ≡ true
unfolding same decoded decoded_from piece_at piece_of digit_of between
decodings-hold = refl
