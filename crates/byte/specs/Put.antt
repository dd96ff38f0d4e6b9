-- Writing a list of bytes into lent memory, from a place on.
-- Assumes nothing.
use Rattle.std.specs.Prelude.{ℕ, ◌+◌, Bool, List, ◌++◌, leb, length, take, drop}
use Rattle.byte.specs.Byte.{pick}

-- d with x in it from the place at on, and every other byte as it was
unfoldable pub put : List ℕ → ℕ → List ℕ → List ℕ
put d at x = take at d ++ x ++ drop (at + length x) d

-- whether d has room for x from the place at on
unfoldable pub fits : List ℕ → ℕ → List ℕ → Bool
fits d at x = leb (at + length x) (length d)

-- what a write leaves: d with x in it, or d as it was where there is no room
unfoldable pub written : List ℕ → ℕ → List ℕ → List ℕ
written d at x = pick (fits d at x) (put d at x) d

-- what a write answers: the place behind x, or the place itself where nothing was written
unfoldable pub after : List ℕ → ℕ → List ℕ → ℕ
after d at x = pick (fits d at x) (at + length x) at
