use mathlib.Core.Path.{◌≡◌}
use lib.ListN.{drop}
use Rattle.byte.specs.Same.{same}
use Rattle.name_table.proofs.is_name.Given as goal

abbrev pub invariant-loop-k : goal.invariant-loop-k
invariant-loop-k l = same l.s l.wanted ≡ same (drop l.k l.s) (drop l.k l.wanted)
