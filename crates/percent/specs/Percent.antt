-- Percent decoding, as document 01 has it. A byte past the end reads as 0, which is no hex digit.
-- Assumes nothing.
use Rattle.std.specs.Prelude.{ℕ, zero, suc, ◌+◌, ◌*◌, Bool, ◌&&◌, List, [], ◌∷◌, ltb, eqb, get_or}
use Rattle.byte.specs.Byte.{pick}
use Rattle.byte.specs.Digit.{digit_of}
use Rattle.percent.specs.declared.Piece.{Piece}

-- a hex digit of either case
abbrev pub is_hex : ℕ → Bool
is_hex b = ltb (digit_of b) 16

-- "`%` and two hex digits of either case give a byte; any other `%` stays", and so does any other byte:
-- the byte that three bytes begin with, and how many of them it takes besides the first
unfoldable pub piece_of : ℕ → ℕ → ℕ → Piece
piece_of a b c =
    pick (eqb a 37 && is_hex b && is_hex c)
    (record { byte = digit_of b * 16 + digit_of c; skip = 2 })
    (record { byte = a; skip = 0 })

-- the piece that stands at a place of a text
unfoldable pub piece_at : List ℕ → ℕ → Piece
piece_at s at = piece_of (get_or s at 0) (get_or s (at + 1) 0) (get_or s (at + 2) 0)

-- the text decoded, from the byte on that follows the first k
unfoldable pub decoded_from : ℕ → List ℕ → List ℕ
decoded_from k [] = []
decoded_from (suc k) (a ∷ s) = decoded_from k s
decoded_from zero (a ∷ s) = (piece_at (a ∷ s) 0).byte ∷ decoded_from (piece_at (a ∷ s) 0).skip s

-- the text decoded: piece after piece, the scan going on behind each
unfoldable pub decoded : List ℕ → List ℕ
decoded s = decoded_from 0 s
