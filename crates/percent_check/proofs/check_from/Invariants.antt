-- `check_from` meets its contract: pieces that are ASCII are counted, and the first that is not hands over to `check_bytes`. Assumes nothing.
use mathlib.Core.Path.{◌≡◌}
use Prim.Native.Nat.{◌-◌, ◌≤◌}
use lib.ListN.{length}
use Rattle.percent_check.specs.Plain.{checked_on}
-- what is left is the text from this place on
use Rattle.percent_check.proofs.check_from.Given as goal

abbrev pub invariant-loop-i : goal.invariant-loop-i
invariant-loop-i l = (checked_on l.from l.from l.s ≡ checked_on l.len l.i l.s) × (l.len ≤ l.i)

abbrev pub decreases-loop-i : goal.decreases-loop-i
decreases-loop-i l = length l.s - l.i
