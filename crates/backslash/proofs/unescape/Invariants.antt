-- `unescape` meets its contract: as it is written, or byte by byte by the laws of filling lent memory. Assumes nothing.
use Prim.Native.Nat.{◌+◌, ◌≤◌}
use lib.ListN.{length, drop}
use Rattle.byte.proofs.Fill.{Filling}
use Rattle.backslash.specs.Backslash.{unescaped, unescaped_from}
use Rattle.backslash.proofs.unescape.Given as goal

abbrev pub invariant-loop-b : goal.invariant-loop-b
invariant-loop-b l = (l.at + length (unescaped l.src) ≤ length l.initial.dst) × Filling l.initial.dst l.at (unescaped l.src) (unescaped_from l.behind (drop l.b-index l.src)) l.dst l.k
