-- Two lists of bytes compared, by a test that computes.
-- Assumes nothing.
use Rattle.std.specs.Prelude.{ℕ, ◌+◌, Bool, true, false, ◌&&◌, List, [], ◌∷◌, eqb, leb, length, take, drop}

-- whether two lists are the same list
unfoldable pub same : List ℕ → List ℕ → Bool
same [] [] = true
same [] (b ∷ t) = false
same (a ∷ s) [] = false
same (a ∷ s) (b ∷ t) = eqb a b && same s t

-- whether w stands in s from the place at on, within s
unfoldable pub stands_at : List ℕ → ℕ → List ℕ → Bool
stands_at w at s = leb (at + length w) (length s) && same (take (length w) (drop at s)) w
