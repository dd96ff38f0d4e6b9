use Prim.Native.Nat.{◌+◌}
use mathlib.Core.Path.{◌≡◌}
use lib.ListN.{take, drop}
use Rattle.name_table.specs.Names.{fixed}
use Rattle.name_table.specs.Find.{among, number_in}
use Rattle.names.proofs.number_among.Given as goal

abbrev pub invariant-loop-k : goal.invariant-loop-k
invariant-loop-k l = number_in (take l.n (drop l.first fixed)) l.s ≡ among (l.k + 1) (drop l.k (take l.n (drop l.first fixed))) l.s
