-- What is left where no arm of a `match` on a number took it.
-- Assumes nothing.
use Prim.{Unit}
use Prim.Native.Nat.{ℕ}
use mathlib.Core.Path.{◌≡◌, refl}
use mathlib.Core.Bool.{Bool, false, ◌||◌}
use mathlib.Core.List.{List, [], ◌∷◌}
use lib.Dec.{eqb}
use borrow.Author.Tests.{ne_eqb}

-- none of some numbers, that of the last arm first
abbrev pub Not : List ℕ → ℕ → Type 0
Not [] k = Unit
Not (x ∷ xs) k = Not xs k × (k ≡ x → ⊥)

abbrev pub member : ℕ → List ℕ → Bool
member k [] = false
member k (x ∷ xs) = eqb k x || member k xs

pub not-member : (xs : List ℕ) (k : ℕ) → Not xs k → member k xs ≡ false
not-member [] k r = refl
not-member (x ∷ xs) k r = rw (ne_eqb k x r.1) (not-member xs k r.0)
