-- Digits in a base, and the number that they stand for, of any size.
-- Assumes nothing.
use Rattle.std.specs.Prelude.{ℕ, ◌+◌, ◌*◌, Bool, true, ◌&&◌, List, [], ◌∷◌, ltb}
use Rattle.byte.specs.Digit.{digit_of}

-- every byte is a digit in the base: its value is below it
unfoldable pub all_digits : ℕ → List ℕ → Bool
all_digits base [] = true
all_digits base (a ∷ s) = ltb (digit_of a) base && all_digits base s

-- the number that v becomes with the digits s behind it
unfoldable pub value_from : ℕ → ℕ → List ℕ → ℕ
value_from base v [] = v
value_from base v (a ∷ s) = value_from base (v * base + digit_of a) s

-- the number that digits stand for, the first one weighing most
unfoldable pub value_in : ℕ → List ℕ → ℕ
value_in base s = value_from base 0 s
