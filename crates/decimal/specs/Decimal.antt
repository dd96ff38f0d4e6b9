-- Numbers written out: plain decimal, and a fixed count of digits in a base.
-- Assumes nothing.
use Rattle.std.specs.Prelude.{ℕ, zero, suc, ◌+◌, ◌/◌, ◌%◌, Bool, List, [], ◌∷◌, ◌++◌, ltb}
use Rattle.byte.specs.Byte.{pick}

-- the byte of a digit below 16: `0` to `9`, then `A` to `F` or `a` to `f`
unfoldable pub digit_byte : Bool → ℕ → ℕ
digit_byte upper d = pick (ltb d 10) (48 + d) (pick upper (55 + d) (87 + d))

-- the last `width` digits of a number in a base, zeros in front where it has fewer
unfoldable pub fixed_digits : ℕ → Bool → ℕ → ℕ → List ℕ
fixed_digits base upper zero n = []
fixed_digits base upper (suc width) n = fixed_digits base upper width (n / base) ++ (digit_byte upper (n % base) ∷ [])

-- "two upper-case hex digits", "four lower-case hex digits"
abbrev pub hex_digits : Bool → ℕ → ℕ → List ℕ
hex_digits upper width n = fixed_digits 16 upper width n

-- plain decimal of at most f digits, no zero in front: a number below ten is its digit, any other the decimal of its tens and then its ones
unfoldable pub decimal_by : ℕ → ℕ → List ℕ
decimal_by zero n = []
decimal_by (suc f) n = pick (ltb n 10) ((48 + n) ∷ []) (decimal_by f (n / 10) ++ ((48 + n % 10) ∷ []))

-- "Numbers are plain decimal": twenty digits are enough for a number of 64 bits
unfoldable pub decimal : ℕ → List ℕ
decimal n = decimal_by 20 n
