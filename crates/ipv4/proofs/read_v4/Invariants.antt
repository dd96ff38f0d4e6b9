-- `ipv4::read_v4`: the whole is what the parts so far and those from here on make; the number so far stays below a roof.
-- Assumes nothing.
use lib.ListN.{length, drop}
use Prim.Native.Nat.{◌≤◌, ◌<◌, ◌-◌}
use mathlib.Core.Path.{◌≡◌}
use Rattle.std.specs.Prelude.{Some}
use Rattle.split.specs.Split.{split}
use Rattle.ipv4.specs.V4.{v4_of}
use Rattle.ipv4.proofs.V4.{parts_from, roof}
use Rattle.ipv4.proofs.read_v4.Given as goal

abbrev pub invariant-loop-k : goal.invariant-loop-k
invariant-loop-k l = (l.i ≤ length l.s) × (l.v < roof (3 - l.k)) × (v4_of l.s ≡ parts_from (3 - l.k) (Some l.v) (split 46 (drop l.i l.s)))
