-- The table of ranges, by the library's test of each.
-- Assumes nothing.
use mathlib.Core.Path.{◌≡◌, refl}
use mathlib.Core.Bool.{◌&&◌}
use mathlib.Core.List.{List, [], ◌∷◌}
use Prim.Native.Nat.{ℕ}
use lib.Dec.{leb}
use Rattle.std.specs.List.{list_any}
use Rattle.byte.specs.Byte.{between}
use Rattle.space.specs.declared.Range.{Range}
use Rattle.space.specs.Space.{within}

pub within-any : (rs : List Range) (c : ℕ) → list_any (λ (r : Range). leb r.0 c && leb c r.1) rs ≡ within rs c
unfolding within between
within-any [] c = refl
within-any (r ∷ rs) c = rw (within-any rs c)
