use Prim.Native.Nat.{◌-◌}
use lib.ListN.{length, drop}
use Rattle.number.proofs.Reading.{Reading}
-- in a turn: the byte read, and what follows it
-- the number with the digit behind it is within the range
use Rattle.number.proofs.digits_from.Given as goal

abbrev pub invariant-loop-i : goal.invariant-loop-i
invariant-loop-i l = Reading l.base l.max (drop l.from l.s) l.v (drop l.i l.s)

abbrev pub decreases-loop-i : goal.decreases-loop-i
decreases-loop-i l = length l.s - l.i
