-- `plain_until` meets its contract: the whole answer is what it is from here on. Assumes nothing.
use Prim.Native.Nat.{◌+◌}
use mathlib.Core.Path.{◌≡◌}
use lib.ListN.{drop}
use Rattle.percent_check.specs.Plain.{plain_until}
use Rattle.percent_check.proofs.plain_until.Given as goal

abbrev pub invariant-loop-i : goal.invariant-loop-i
invariant-loop-i l = l.from + plain_until l.stop (drop l.from l.s) ≡ l.i + plain_until l.stop (drop l.i l.s)
