-- Numbers written out, by computation.
-- Assumes nothing.
use mathlib.Core.Path.{◌≡◌, refl}
use mathlib.Core.Bool.{Bool, true, false}
use mathlib.Core.List.{List, [], ◌∷◌, map}
use Prim.Native.Nat.{ℕ, ◌^◌, ◌-◌}
use Prim.Native.String.{String}
use Rattle.byte.specs.Ascii.{bytes}
use Rattle.decimal.specs.Decimal.{digit_byte, fixed_digits, hex_digits, decimal_by, decimal}

abbrev decimals : List (ℕ × String)
decimals =
    (0, "0")
    ∷ (7, "7")
    ∷ (10, "10")
    ∷ (100, "100")
    ∷ (5432, "5432")
    ∷ (65535, "65535")
    ∷ (2 ^ 63 - 1, "9223372036854775807")
    ∷ (2 ^ 64 - 1, "18446744073709551615")
    ∷ []

-- upper case or not, a width, a number, and its hex digits
abbrev hexes : List (Bool × ℕ × ℕ × String)
hexes =
    (true, 2, 0, "00")
    ∷ (true, 2, 10, "0A")
    ∷ (true, 2, 37, "25")
    ∷ (true, 2, 255, "FF")
    ∷ (false, 4, 0, "0000")
    ∷ (false, 4, 1, "0001")
    ∷ (false, 4, 65152, "fe80")
    ∷ (false, 4, 65535, "ffff")
    ∷ []

pub examples :
    (map (λ (r : ℕ × String). decimal r.0) decimals ≡ map (λ (r : ℕ × String). bytes r.1) decimals)
    × (map (λ (r : Bool × ℕ × ℕ × String). hex_digits r.0 r.1 r.2) hexes ≡ map (λ (r : Bool × ℕ × ℕ × String). bytes r.3) hexes)
unfolding digit_byte fixed_digits decimal_by decimal
examples = (refl, refl)
