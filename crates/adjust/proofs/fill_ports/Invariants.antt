use Prim.Native.Nat.{◌-◌}
use Rattle.adjust.proofs.fill_ports.Given as goal

abbrev pub invariant-loop-i : goal.invariant-loop-i
invariant-loop-i g l = Unit {0}

abbrev pub decreases-loop-i : goal.decreases-loop-i
decreases-loop-i g l = 16 - l.i
