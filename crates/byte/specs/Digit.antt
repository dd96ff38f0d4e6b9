-- Digits in ASCII, and the numbers that they stand for.
-- Assumes nothing.
use Rattle.std.specs.Prelude.{ℕ, ◌-◌}
use Rattle.byte.specs.Byte.{pick, between}

-- the value of a hex digit of either case: `0` to `9`, `A` to `F`, `a` to `f`; 16 for any other byte
unfoldable pub digit_of : ℕ → ℕ
digit_of b = pick (between 48 57 b) (b - 48) (pick (between 65 70 b) (b - 55) (pick (between 97 102 b) (b - 87) 16))
