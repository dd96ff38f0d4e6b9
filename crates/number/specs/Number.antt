-- Numbers: "an optional `+`, for signed ones also `-`, then one or more ASCII digits, leading zeros allowed", within a range.
-- Assumes nothing.
use Rattle.std.specs.Prelude.{ℕ, ◌&&◌, List, ltb, leb, eqb, get_or, drop, length}
use Rattle.byte.specs.Byte.{pick}
use Rattle.number.specs.declared.Radix.{Radix}
use Rattle.std.specs.Prelude.{Result, Ok, Err}
use Rattle.number.specs.declared.NumberError.{NumberError}
use Rattle.number.specs.Digits.{all_digits, value_in}

-- the base that a radix names
abbrev pub radix_of : Radix → ℕ
radix_of Radix.Ten = 10
radix_of Radix.Sixteen = 16

-- one or more digits, no sign. A fault of form is judged over the whole piece, and the range only then.
unfoldable pub digits_in : ℕ → ℕ → List ℕ → Result ℕ NumberError
digits_in base max s =
    pick (ltb 0 (length s) && all_digits base s) (pick (leb (value_in base s) max) (Ok (value_in base s)) (Err NumberError.Range)) (Err NumberError.Form)

-- an optional `+` (byte 43), then decimal digits, for a number from 0 to max
unfoldable pub unsigned_of : ℕ → List ℕ → Result ℕ NumberError
unsigned_of max s = pick (eqb (get_or s 0 0) 43) (digits_in 10 max (drop 1 s)) (digits_in 10 max s)
