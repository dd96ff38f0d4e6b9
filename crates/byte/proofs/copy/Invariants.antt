use Prim.Native.Nat.{◌+◌, ◌≤◌}
use lib.ListN.{length, drop}
use Rattle.byte.proofs.Fill.{Filling}
use Rattle.byte.proofs.copy.Given as goal

abbrev pub invariant-loop-k : goal.invariant-loop-k
invariant-loop-k l = (l.at + length l.src ≤ length l.initial.dst) × Filling l.initial.dst l.at l.src (drop l.k l.src) l.dst l.k
