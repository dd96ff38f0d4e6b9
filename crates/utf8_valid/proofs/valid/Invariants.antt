-- `valid` meets its contract: a text of ASCII alone, or else characters one by one, those of ASCII passed over; what comes behind decides. Assumes nothing.
use mathlib.Core.Path.{◌≡◌}
use Prim.Native.Nat.{◌≤◌, ◌-◌}
use lib.ListN.{length, drop}
use Rattle.utf8.specs.Utf8.{well_formed}
-- the character's length, as the definition has it, and that it lies within the text
use Rattle.utf8_valid.proofs.valid.Given as goal

abbrev pub invariant-loop-at : goal.invariant-loop-at
invariant-loop-at l = (l.at ≤ length l.s) × (well_formed l.s ≡ well_formed (drop l.at l.s))

abbrev pub decreases-loop-at : goal.decreases-loop-at
decreases-loop-at l = length l.s - l.at
