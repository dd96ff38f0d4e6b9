-- `group_text::read_groups`: the groups are those that are held and those from here on.
-- Assumes nothing.
use Prim.Native.Nat.{◌≤◌, ◌+◌, ◌-◌}
use mathlib.Core.Path.{◌≡◌}
use lib.ListN.{length, drop}
use Rattle.split.specs.Split.{first_at}
use Rattle.group_text.proofs.Reading.{Reading}
use Rattle.group_text.proofs.read_groups.Given as goal

abbrev pub invariant-loop-e : goal.invariant-loop-e
invariant-loop-e l = (l.i ≤ length l.s) × (l.e ≡ l.i + first_at 58 (drop l.i l.s)) × Reading l.tail l.s l.g l.i

abbrev pub decreases-loop-e : goal.decreases-loop-e
decreases-loop-e l = length l.s - l.e
