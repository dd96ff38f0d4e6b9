-- `group_text::find_gap`: the whole answer is what it is from here on.
-- Assumes nothing.
use Prim.Native.Nat.{◌+◌}
use mathlib.Core.Path.{◌≡◌}
use lib.ListN.{drop}
use Rattle.group_text.specs.Text.{gap_at}
use Rattle.group_text.proofs.find_gap.Given as goal

abbrev pub invariant-loop-i : goal.invariant-loop-i
invariant-loop-i l = gap_at l.s ≡ l.i + gap_at (drop l.i l.s)
