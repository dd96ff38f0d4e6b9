-- `simple_value` meets its contract: goes by pieces until white space begins, and passes over what is seen at a glance, by the laws of a loop that does so. Assumes nothing.
use Rattle.keyvalue.specs.Scan.{starts_space}
use Prim.Native.Nat.{◌-◌}
use lib.ListN.{length}
use Rattle.keyvalue.proofs.Pieces.{Scanning}
use Rattle.keyvalue.proofs.simple_value.Given as goal

abbrev pub invariant-loop-i : goal.invariant-loop-i
invariant-loop-i l = Scanning starts_space l.s l.at l.i l.len

abbrev pub decreases-loop-i : goal.decreases-loop-i
decreases-loop-i l = length l.s - l.i
