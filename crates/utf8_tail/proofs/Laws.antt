-- Laws of the byte behind a character's first.
-- Assumes nothing.
use mathlib.Core.Bool.{Bool, true, false}
use Prim.Native.Nat.{ℕ, ◌≤◌}
use native.Mathlib.Omega.{arith}
use lib.Dec.{eqb}
use Rattle.byte.specs.Byte.{pick}
use Rattle.utf8_tail.specs.Tail.{least, greatest}

-- a second byte is a tail
pub least-tail : (a : ℕ) → 0x80 ≤ least a
unfolding least
least-tail a = by (eqb a 0xe0) (eqb a 0xf0)
  where
    by : (p q : Bool) → 0x80 ≤ pick p 0xa0 (pick q 0x90 0x80)
    by true q = omega arith
    by false true = omega arith
    by false false = omega arith

pub greatest-tail : (a : ℕ) → greatest a ≤ 0xbf
unfolding greatest
greatest-tail a = by (eqb a 0xed) (eqb a 0xf4)
  where
    by : (p q : Bool) → pick p 0x9f (pick q 0x8f 0xbf) ≤ 0xbf
    by true q = omega arith
    by false true = omega arith
    by false false = omega arith
