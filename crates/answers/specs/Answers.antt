-- A text's answer as one number.
-- Assumes nothing.
use Rattle.std.specs.Prelude.{ℕ, ◌+◌, ◌*◌, ◌^◌}
use Rattle.outcome.specs.declared.Answer.{Answer}

-- number, key and count: a byte each for the first two
unfoldable pub in_one : Answer → ℕ
in_one a = a.number + 2 ^ 8 * a.key + 2 ^ 16 * a.count
