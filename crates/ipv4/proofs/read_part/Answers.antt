-- `ipv4::read_part`: the test for a leading zero, then what the digits read as.
-- Assumes nothing.
use mathlib.Core.Path.{◌≡◌}
use native.Mathlib.Omega.{arith}
use Rattle.std.specs.Prelude.{ℕ, Option, Some, None}
use Rattle.ipv4.specs.V4.{part_of}
use Rattle.ipv4.proofs.V4.{part-most}
use Rattle.ipv4.proofs.read_part.Goals as goal

pub returns-then-is_zero_led : goal.returns-then-is_zero_led
unfolding part_of
returns-then-is_zero_led c =
    rw (← c.is_zero_led.ensures, c.if-is_zero_led.true)

pub returns-in_err-n : goal.returns-in_err-n
unfolding part_of
returns-in_err-n c =
    let none : ◌≡◌ {A = Option ℕ} c.from_residual.result None = c.from_residual.ensures in
    rw (none, ← c.is_zero_led.ensures, c.if-is_zero_led.false, ← c.read_digits.ensures, ← c.in_err-n.ensures.value)

pub overflow_cast-result : goal.overflow_cast-result
unfolding part_of
overflow_cast-result c =
    let read : part_of c.args.s.now ≡ Some c.in_ok-n.n = rw (← c.is_zero_led.ensures, c.if-is_zero_led.false, ← c.read_digits.ensures, ← c.in_ok-n.ensures.value) in
    omega (arith, part-most c.args.s.now c.in_ok-n.n read)

pub returns : goal.returns
unfolding part_of
returns c =
    rw (← c.is_zero_led.ensures, c.if-is_zero_led.false, ← c.read_digits.ensures, ← c.in_ok-n.ensures.value)
