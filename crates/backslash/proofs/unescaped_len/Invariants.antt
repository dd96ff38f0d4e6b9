-- `unescaped_len` meets its contract: counts the bytes that are added. Assumes nothing.
use mathlib.Core.Path.{◌≡◌}
use Prim.Native.Nat.{◌+◌, ◌≤◌}
use lib.ListN.{length, drop}
use Rattle.backslash.specs.Backslash.{unescaped, unescaped_from}
use Rattle.backslash.proofs.unescaped_len.Given as goal

abbrev pub invariant-loop-b : goal.invariant-loop-b
invariant-loop-b l = (l.len ≤ l.b-index) × (length (unescaped l.raw) ≡ l.len + length (unescaped_from l.behind (drop l.b-index l.raw)))
