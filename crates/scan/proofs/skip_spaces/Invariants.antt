-- `skip_spaces` meets its contract: each turn leaves the run's end where it is, and the run stops where no white space begins. Assumes nothing.
use mathlib.Core.Path.{◌≡◌}
use Prim.Native.Nat.{◌-◌}
use lib.ListN.{length}
use Rattle.scan.specs.Scan.{end_of, space_len}
use Rattle.scan.proofs.skip_spaces.Given as goal

abbrev pub invariant-loop-at : goal.invariant-loop-at
invariant-loop-at l = end_of space_len l.s l.at ≡ end_of space_len l.s l.i

abbrev pub decreases-loop-at : goal.decreases-loop-at
decreases-loop-at l = length l.s - l.i
