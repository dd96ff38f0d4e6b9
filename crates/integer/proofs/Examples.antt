-- Pieces at the ends of each range, one beyond, and of a wrong form: what the definitions say of them, by computation.
-- Assumes nothing.
use mathlib.Core.Path.{◌≡◌, refl}
use mathlib.Core.List.{List, [], ◌∷◌, map}
use Prim.Native.Nat.{ℕ, ◌^◌, ◌-◌}
use Prim.Native.String.{String}
use lib.IntN.{pos, neg_ℤ}
use Rattle.byte.specs.Ascii.{bytes}
use Rattle.byte.specs.Byte.{between}
use Rattle.byte.specs.Digit.{digit_of}
use Rattle.std.specs.Prelude.{ℤ, Result, Ok, Err}
use Rattle.number.specs.declared.NumberError.{NumberError}
use Rattle.digits.specs.Digits.{all_digits, value_from, value_in}
use Rattle.number.specs.Number.{digits_in, unsigned_of}
use Rattle.integer.specs.Integer.{signed_of}

-- the end of a range, a piece, and what it reads as
abbrev unsigned : List (ℕ × String × Result ℕ NumberError)
unsigned =
    (2 ^ 16 - 1, "65535", Ok 65535)
    ∷ (2 ^ 16 - 1, "65536", (Err NumberError.Range))
    ∷ (2 ^ 16 - 1, "00065535", Ok 65535)
    ∷ (2 ^ 16 - 1, "+65535", Ok 65535)
    ∷ (2 ^ 16 - 1, "+0", Ok 0)
    ∷ (2 ^ 16 - 1, "99999x", (Err NumberError.Form))
    ∷ (2 ^ 16 - 1, "-0", (Err NumberError.Form))
    ∷ (2 ^ 16 - 1, "++1", (Err NumberError.Form))
    ∷ (2 ^ 16 - 1, "+", (Err NumberError.Form))
    ∷ (2 ^ 16 - 1, "", (Err NumberError.Form))
    ∷ (2 ^ 16 - 1, "1 ", (Err NumberError.Form))
    ∷ (2 ^ 16 - 1, "a", (Err NumberError.Form))
    ∷ (2 ^ 32 - 1, "4294967295", Ok 4294967295)
    ∷ (2 ^ 32 - 1, "4294967296", (Err NumberError.Range))
    ∷ (2 ^ 64 - 1, "18446744073709551615", Ok 18446744073709551615)
    ∷ (2 ^ 64 - 1, "18446744073709551616", (Err NumberError.Range))
    ∷ (2 ^ 64 - 1, "99999999999999999999999", (Err NumberError.Range))
    ∷ (2 ^ 64 - 1, "99999999999999999999999:", (Err NumberError.Form))
    ∷ []

abbrev signed : List (String × Result ℤ NumberError)
signed =
    ("9223372036854775807", Ok (pos 9223372036854775807))
    ∷ ("9223372036854775808", (Err NumberError.Range))
    ∷ ("-9223372036854775808", Ok (neg_ℤ (pos 9223372036854775808)))
    ∷ ("-9223372036854775809", (Err NumberError.Range))
    ∷ ("-0", Ok (pos 0))
    ∷ ("-007", Ok (neg_ℤ (pos 7)))
    ∷ ("+7", Ok (pos 7))
    ∷ ("+-1", (Err NumberError.Form))
    ∷ ("-+1", (Err NumberError.Form))
    ∷ ("--1", (Err NumberError.Form))
    ∷ ("-", (Err NumberError.Form))
    ∷ ("+", (Err NumberError.Form))
    ∷ ("", (Err NumberError.Form))
    ∷ ("-9223372036854775809x", (Err NumberError.Form))
    ∷ []

-- digits with no sign: a base, the end of a range, a piece, and what it reads as
abbrev digits : List (ℕ × ℕ × String × Result ℕ NumberError)
digits =
    (16, 65535, "ffff", Ok 65535)
    ∷ (16, 65535, "FfFf", Ok 65535)
    ∷ (16, 65535, "10000", (Err NumberError.Range))
    ∷ (16, 65535, "g", (Err NumberError.Form))
    ∷ (16, 65535, "+1", (Err NumberError.Form))
    ∷ (10, 255, "255", Ok 255)
    ∷ (10, 255, "256", (Err NumberError.Range))
    ∷ (10, 255, "", (Err NumberError.Form))
    ∷ []

pub examples :
    (map (λ (r : ℕ × String × Result ℕ NumberError). unsigned_of r.0 (bytes r.1)) unsigned ≡ map (λ (r : ℕ × String × Result ℕ NumberError). r.2) unsigned)
    × (map (λ (r : String × Result ℤ NumberError). signed_of (bytes r.0)) signed ≡ map (λ (r : String × Result ℤ NumberError). r.1) signed)
    × (map (λ (r : ℕ × ℕ × String × Result ℕ NumberError). digits_in r.0 r.1 (bytes r.2)) digits ≡ map (λ (r : ℕ × ℕ × String × Result ℕ NumberError). r.3) digits)
unfolding digits_in unsigned_of signed_of all_digits value_in value_from digit_of between
examples = (refl, refl, refl)
