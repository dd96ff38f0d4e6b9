-- What white space says of the marks that a reader looks for, of 0, which a read past the end gives, and of wide runs of code points.
-- Assumes nothing.
use mathlib.Core.Path.{◌≡◌, refl}
use Prim.Native.Nat.{ℕ, ◌<◌}
use native.Mathlib.Omega.{arith}
use mathlib.Core.Bool.{true, false}
use Rattle.byte.specs.Byte.{between}
use Rattle.byte.proofs.Laws.{below-between, above-between}
use Rattle.space.specs.Space.{within, spaces, is_space}

pub blank : is_space 32 ≡ true
unfolding is_space within spaces between
blank = refl

pub nul : is_space 0 ≡ false
unfolding is_space within spaces between
nul = refl

-- `'`, `=` and `\`
pub quote : is_space 39 ≡ false
unfolding is_space within spaces between
quote = refl

pub equals-sign : is_space 61 ≡ false
unfolding is_space within spaces between
equals-sign = refl

pub backslash : is_space 92 ≡ false
unfolding is_space within spaces between
backslash = refl

-- none lies between 00A0 and 1680
pub middle : (c : ℕ) → 0xa0 < c → c < 0x1680 → is_space c ≡ false
unfolding is_space within spaces
middle c l h =
    rw (
      above-between 0x9 0xd c (omega arith),
      above-between 0x20 0x20 c (omega arith),
      above-between 0x85 0x85 c (omega arith),
      above-between 0xa0 0xa0 c (omega arith),
      below-between 0x1680 0x1680 c (omega arith),
      below-between 0x2000 0x200a c (omega arith),
      below-between 0x2028 0x2028 c (omega arith),
      below-between 0x2029 0x2029 c (omega arith),
      below-between 0x202f 0x202f c (omega arith),
      below-between 0x205f 0x205f c (omega arith),
      below-between 0x3000 0x3000 c (omega arith),
    )

-- none lies above 3000
pub highest : (c : ℕ) → 0x3000 < c → is_space c ≡ false
unfolding is_space within spaces
highest c h =
    rw (
      above-between 0x9 0xd c (omega arith),
      above-between 0x20 0x20 c (omega arith),
      above-between 0x85 0x85 c (omega arith),
      above-between 0xa0 0xa0 c (omega arith),
      above-between 0x1680 0x1680 c (omega arith),
      above-between 0x2000 0x200a c (omega arith),
      above-between 0x2028 0x2028 c (omega arith),
      above-between 0x2029 0x2029 c (omega arith),
      above-between 0x202f 0x202f c (omega arith),
      above-between 0x205f 0x205f c (omega arith),
      above-between 0x3000 0x3000 c (omega arith),
    )
