-- Where the value of a text key lies in the decode buffer, as one number.
-- Assumes nothing.
use Rattle.std.specs.Prelude.{ℕ, List, eqb, length}
use Rattle.byte.specs.Byte.{pick}
use Rattle.outcome.specs.Outcome.{answer}
use Rattle.places.specs.Places.{text_of, nowhere, place_of}

unfoldable pub place : List ℕ → ℕ → ℕ → ℕ
place s room key =
    pick (eqb (answer s room).number 0) (place_of (length s) (text_of key (answer s room).config)) (nowhere (answer s room).number)
