-- A text split at a byte, and pieces joined by one.
-- Assumes nothing.
use Rattle.std.specs.Prelude.{ℕ, suc, List, [], ◌∷◌, ◌++◌, eqb}
use Rattle.byte.specs.Byte.{pick}

-- the place of the first b, or the length where there is none
unfoldable pub first_at : ℕ → List ℕ → ℕ
first_at b [] = 0
first_at b (a ∷ s) = pick (eqb a b) 0 (suc (first_at b s))

-- a byte in front of the first piece
abbrev pub onto : ℕ → List (List ℕ) → List (List ℕ)
onto a [] = (a ∷ []) ∷ []
onto a (p ∷ ps) = (a ∷ p) ∷ ps

-- what stands between the b's: one piece more than there are b's, so the empty text is one empty piece
unfoldable pub split : ℕ → List ℕ → List (List ℕ)
split b [] = [] ∷ []
split b (a ∷ s) = pick (eqb a b) ([] ∷ split b s) (onto a (split b s))

-- pieces with a b between each two
unfoldable pub join : ℕ → List (List ℕ) → List ℕ
join b [] = []
join b (p ∷ []) = p
join b (p ∷ q ∷ ps) = p ++ b ∷ join b (q ∷ ps)
