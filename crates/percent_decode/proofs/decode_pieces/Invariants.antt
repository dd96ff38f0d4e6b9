-- `decode_pieces` meets its contract: the decoded bytes one by one, by the laws of filling lent memory. Assumes nothing.
use Prim.Native.Nat.{◌+◌, ◌≤◌}
use lib.ListN.{length}
use Rattle.byte.proofs.Fill.{Filling}
use Rattle.percent.specs.Percent.{decoded}
use Rattle.percent.specs.Left.{decoded_left}
use Rattle.percent_decode.proofs.decode_pieces.Given as goal

abbrev pub invariant-loop-one : goal.invariant-loop-one
invariant-loop-one l = (l.at + length (decoded l.src) ≤ length l.initial.dst) × Filling l.initial.dst l.at (decoded l.src) (decoded_left l.one-iterator) l.dst l.k
