-- `keyword` meets its contract: each turn leaves the run's end where it is; a byte above `=` that begins no white space is passed over. Assumes nothing.
use mathlib.Core.Path.{◌≡◌}
use Prim.Native.Nat.{◌≤◌, max}
use lib.ListN.{length}
use Rattle.scan.specs.Scan.{end_of, key_len}
use Rattle.scan.proofs.keyword.Given as goal

abbrev pub invariant-loop-i : goal.invariant-loop-i
invariant-loop-i l = (l.i ≤ max l.at (length l.s)) × (end_of key_len l.s l.at ≡ end_of key_len l.s l.i)
