-- `greatest_in` meets its contract: as long as the greatest byte is ASCII, what follows decides. Assumes nothing.
use Prim.Native.Nat.{◌<◌}
use mathlib.Core.Path.{◌≡◌}
use lib.ListN.{drop}
use Rattle.utf8.specs.Utf8.{well_formed}
use Rattle.utf8_valid.proofs.greatest_in.Given as goal

abbrev pub invariant-loop-b : goal.invariant-loop-b
invariant-loop-b l = l.greatest < 0x80 → well_formed l.s ≡ well_formed (drop l.b-index l.s)
