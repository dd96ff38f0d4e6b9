use Prim.Native.Nat.{◌+◌, ◌-◌, ◌≤◌}
use lib.ListN.{length}
use Rattle.decimal.proofs.Backward.{Backward}
use Rattle.decimal.proofs.put_fixed.Given as goal

abbrev pub invariant-loop-done : goal.invariant-loop-done
invariant-loop-done l = (l.at + l.width ≤ length l.initial.dst) × Backward l.base l.upper l.width l.n l.initial.dst l.at l.dst l.m (l.width - l.done)
