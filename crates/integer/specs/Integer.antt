-- Numbers as integers: "for signed ones also `-`"; over 16, 32 and 64 bits.
-- Assumes nothing.
use Rattle.std.specs.Prelude.{ℕ, ℤ, ◌-◌, ◌^◌, List, eqb, get_or, drop, pos, neg_ℤ, Result, Ok, Err}
use Rattle.byte.specs.Byte.{pick}
use Rattle.number.specs.declared.NumberError.{NumberError}
use Rattle.number.specs.Number.{digits_in, unsigned_of}

-- a number as a signed one, and its negative
abbrev pub positive : Result ℕ NumberError → Result ℤ NumberError
positive (Ok n) = Ok (pos n)
positive (Err e) = Err e

abbrev pub negative : Result ℕ NumberError → Result ℤ NumberError
negative (Ok n) = Ok (neg_ℤ (pos n))
negative (Err e) = Err e

-- signed 64-bit, from -2^63 to 2^63 - 1: behind a `-` (byte 45) the digits' number is negated, otherwise as above
unfoldable pub signed_of : List ℕ → Result ℤ NumberError
signed_of s = pick (eqb (get_or s 0 0) 45) (negative (digits_in 10 (2 ^ 63) (drop 1 s))) (positive (unsigned_of (2 ^ 63 - 1) s))
