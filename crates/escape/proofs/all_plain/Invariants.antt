use mathlib.Core.Path.{◌≡◌}
use mathlib.Core.Bool.{◌&&◌}
use lib.Dec.{eqb}
use lib.ListN.{drop}
use Rattle.escape.specs.Escape.{all_plain}
use Rattle.escape.proofs.all_plain.Given as goal

abbrev pub invariant-loop-b : goal.invariant-loop-b
invariant-loop-b l = all_plain l.x ≡ eqb l.most 0 && all_plain (drop l.b-index l.x)
