-- A fact of each byte of a list, to be used by recursion over the list.
-- Assumes nothing.
use mathlib.Core.Bool.{Bool}
use mathlib.Core.List.{List, [], ◌∷◌, ◌++◌}
use mathlib.Core.Logic.{◌⊎◌}
use Prim.Native.Nat.{ℕ}
use Rattle.byte.specs.Byte.{pick}
use Rattle.byte.proofs.Laws.{In}

abbrev pub Each : (ℕ → Type 0) → List ℕ → Type 0
Each p [] = Unit {0}
Each p (a ∷ s) = p a × Each p s

pub each_append : (p : ℕ → Type 0) (s t : List ℕ) → Each p s → Each p t → Each p (s ++ t)
each_append p [] t f g = g
each_append p (a ∷ s) t f g = (f.0, each_append p s t f.1 g)

-- the byte of a hex digit: `0` to `9`, then `A` to `F` or `a` to `f`
abbrev pub HexByte : Bool → ℕ → Type 0
HexByte upper b = In 48 57 b ⊎ In (pick upper 65 97) (pick upper 70 102) b
