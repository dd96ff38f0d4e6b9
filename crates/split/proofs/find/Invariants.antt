-- `split::find`: the whole answer is what it is from here on.
-- Assumes nothing.
use Prim.Native.Nat.{◌+◌}
use mathlib.Core.Path.{◌≡◌}
use lib.ListN.{drop}
use Rattle.split.specs.Split.{first_at}
use Rattle.split.proofs.find.Given as goal

abbrev pub invariant-loop-i : goal.invariant-loop-i
invariant-loop-i l = l.from + first_at l.b (drop l.from l.s) ≡ l.i + first_at l.b (drop l.i l.s)
