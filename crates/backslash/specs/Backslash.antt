-- Values with backslashes, by document 01.
-- Assumes nothing.
use Rattle.std.specs.Prelude.{ℕ, ◌+◌, Bool, true, false, List, [], ◌∷◌, eqb, get_or}
use Rattle.byte.specs.Byte.{pick}

-- "A backslash adds the next character, whatever it is; as the last thing in the text it adds nothing."
-- What a value comes to, where the flag tells whether a backslash stands before it
unfoldable pub unescaped_from : Bool → List ℕ → List ℕ
unescaped_from behind [] = []
unescaped_from true (a ∷ s) = a ∷ unescaped_from false s
unescaped_from false (a ∷ s) = pick (eqb a 92) (unescaped_from true s) (a ∷ unescaped_from false s)

abbrev pub unescaped : List ℕ → List ℕ
unescaped s = unescaped_from false s

-- "A backslash adds the next character, whatever it is": so the two are one piece of a value, and any other byte is one by itself
unfoldable pub piece_len : List ℕ → ℕ
piece_len [] = 0
piece_len (a ∷ []) = 1
piece_len (a ∷ b ∷ s) = pick (eqb a 92) 2 1

-- the place of the byte that a value gains from the piece at a place: behind a backslash the next one
unfoldable pub gained_at : List ℕ → ℕ → ℕ
gained_at s at = pick (eqb (get_or s at 0) 92) (at + 1) at

-- a value goes on piece by piece until it stands before its end
abbrev pub until : (List ℕ → Bool) → List ℕ → ℕ
until ends s = pick (ends s) 0 (piece_len s)
