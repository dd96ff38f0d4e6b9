use mathlib.Core.Path.{◌≡◌}
use Prim.Native.Nat.{◌+◌, ◌^◌, ◌<◌}
use lib.ListN.{length}
use Rattle.decimal.specs.Decimal.{decimal}
use Rattle.decimal.proofs.decimal_len.Given as goal

abbrev pub invariant-loop-m : goal.invariant-loop-m
invariant-loop-m l = (l.m < 10 ^ 20) × (l.len + length (decimal l.m) ≡ length (decimal l.n) + 1)

abbrev pub decreases-loop-m : goal.decreases-loop-m
decreases-loop-m l = l.m
