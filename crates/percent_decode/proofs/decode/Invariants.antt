-- `decode` meets its contract: bytes are copied up to the first `%`, and what is decoded from there on completes them. Assumes nothing.
use lib.ListN.{length, drop}
use Prim.Native.Nat.{◌+◌, ◌≤◌}
use Rattle.byte.proofs.Fill.{Filling}
use Rattle.percent.specs.Percent.{decoded}
-- in a turn the byte that was read is what comes next
use Rattle.percent_decode.proofs.decode.Given as goal

abbrev pub invariant-loop-k : goal.invariant-loop-k
invariant-loop-k l = (l.at + length (decoded l.src) ≤ length l.initial.dst) × Filling l.initial.dst l.at (decoded l.src) (decoded (drop l.k l.src)) l.dst l.k
